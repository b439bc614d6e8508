-- How the code keeps a run: no promise needs it.
pub mod Recorded
pub mod State
pub mod Runs
