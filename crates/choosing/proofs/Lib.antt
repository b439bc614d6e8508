-- The laws of the choice of a step.
pub mod Couples
pub mod Candidates
pub mod SeekSteps
pub mod SettledBest
pub mod CoupleAgain
