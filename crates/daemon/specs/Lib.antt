-- What document 01 says of a run called from C.
pub mod Calls
pub mod Promises
pub mod code
