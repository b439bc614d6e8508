-- What document 01 says of the program's text: what it asks for, and what is printed.
pub mod Running
pub mod Output
pub mod code
