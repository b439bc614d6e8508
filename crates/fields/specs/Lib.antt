-- What document 01 says of lines of text, their fields and decimal numbers.
pub mod Texts
pub mod Decimal
pub mod Lines
pub mod Fields
pub mod code
