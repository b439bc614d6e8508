-- How the code comes back to the rows before a step: no promise needs it.
pub mod Replaying
