-- What `drops` prints: how many terms each step dropped.
pub mod Dropping
