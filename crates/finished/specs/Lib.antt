-- What document 02, W-212, says of finished trees.
pub mod Finished
pub mod GreedyBound
