-- What document 01 says of numbers in the calls from C: every slice is bytes.
pub mod Bytes
pub mod code
