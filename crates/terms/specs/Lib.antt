-- What document 01 says of rows: how they stand in numbers, which are good, what a triple weighs in them.
pub mod Rows
pub mod Counted
pub mod Rules
pub mod Job
pub mod Good
pub mod Letters
pub mod Weight
pub mod code
