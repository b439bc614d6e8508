-- Words about lists that several crates' definitions use.
pub mod Counting
pub mod Members
pub mod Renewed
pub mod Ordered
pub mod Ranges
pub mod Least
pub mod Written
