-- What document 01 says of one assignment: the rounds and the answer.
pub mod Rounds
pub mod Answer
pub mod Promises
pub mod Assignment
pub mod Finished
pub mod computed
pub mod code
