-- What document 01 says of the text that a program reads.
pub mod Input
pub mod Jobs
pub mod code
