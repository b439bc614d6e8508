-- What the functions of the tree weight ask of one another: no promise needs it.
pub mod Promises
