-- What the code that lays out a run's tree tells of it: no promise needs it.
pub mod Ending
