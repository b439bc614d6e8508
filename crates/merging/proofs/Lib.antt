-- The laws of the state of a run.
pub mod FirstOpen
pub mod Tables
pub mod Recording
pub mod StateFresh
pub mod StateMerged
pub mod StateStepped
pub mod StateAsked
pub mod RowsHeld
pub mod Runs
