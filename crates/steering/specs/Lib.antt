-- What the commands for people who write journals by hand print: merges made into a journal, and what a refused line lacks.
pub mod Steering
pub mod Reasons
