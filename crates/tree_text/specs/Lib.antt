-- What the commands `check` and `weigh` print.
pub mod Answers
pub mod code
