-- What document 01 says of the tree weight, and 02 of the operators that it counts.
pub mod Operators
pub mod Weight
pub mod CountedOnce
pub mod code
