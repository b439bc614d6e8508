-- The laws of finished trees.
pub mod Merged
pub mod LaidMerged
pub mod UnderMerged
pub mod ChainsMerged
pub mod FinishedTrees
pub mod EdgesMerged
pub mod StepsWeighed
pub mod GreedyBound
pub mod CallsFinish
