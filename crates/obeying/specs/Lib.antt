-- What document 01 says of a journal that is read: what its lines say, and a journal obeyed line by line.
pub mod LineForms
pub mod Obeying
pub mod Obedience
pub mod code
