-- How the code finishes a run and writes new lines: no promise needs it.
pub mod NewLines
pub mod Finishing
