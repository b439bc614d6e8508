-- What the commands on trees read: a tree of `node` lines.
pub mod TreeInput
pub mod code
