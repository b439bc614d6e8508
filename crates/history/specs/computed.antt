-- What the records of merges say, as computations: each is proved to be what its record describes, so a reader can pass over them.
pub mod Pairs
pub mod Choosing
pub mod Greedy
