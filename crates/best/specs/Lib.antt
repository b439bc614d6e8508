-- What document 02, W-213, says of the best that lawful merges can come to.
pub mod Sequences
pub mod Best
pub mod computed
pub mod Call
pub mod code
