-- What the command `assign` prints.
pub mod Assigning
pub mod code
