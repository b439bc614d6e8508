-- What document 01 says of the journal: what a run writes, and the calls that resume from what was written.
pub mod Writing
pub mod Resuming
pub mod Promises
pub mod Obedience
pub mod CutAndResumed
pub mod computed
pub mod code
