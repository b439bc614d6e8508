-- What document 01 says of tree tables: rows laid out as one, which are accepted, and what writing one comes to.
pub mod Table
pub mod Laying
pub mod OneTree
pub mod Pairs
pub mod Check
pub mod Accepted
pub mod Writing
pub mod Finished
