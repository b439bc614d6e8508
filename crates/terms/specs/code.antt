-- How rows stand in the numbers that the code is lent: no public promise needs it.
pub mod Held
pub mod Sized
