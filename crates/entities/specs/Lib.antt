-- What document 01, "Numbers", says of parents, of the codes of children, and of the limits of calls.
pub mod Limits
pub mod Parents
pub mod Codes
