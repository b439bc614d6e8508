-- What document 01 says of assigning called from C.
pub mod Calls
pub mod Promises
pub mod code
