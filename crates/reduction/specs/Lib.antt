-- What document 01 says of the reduction of rows to a parent.
pub mod Reduction
pub mod Counts
pub mod code
