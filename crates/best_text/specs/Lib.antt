-- What the command `best` prints.
pub mod Printing
pub mod code
