-- What is printed of the tree that a text's run ends in.
pub mod Printing
pub mod code
