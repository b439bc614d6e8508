-- The laws of a run called from C.
pub mod CallAnswered
pub mod OneResult
pub mod Outright
pub mod RefusalPlaces
pub mod ResultSays
pub mod ResumedAlike
