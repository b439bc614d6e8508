-- The laws of strings: the way up from a leaf, where two of them clash, what those of a term multiply to, and how they are written.
pub mod WayUp
pub mod Clashes
pub mod ProductLetters
pub mod LinesWritten
