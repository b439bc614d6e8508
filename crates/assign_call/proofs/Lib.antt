-- The laws of assigning called from C.
pub mod AssignAnswered
pub mod AssignedAlike
pub mod AssignPlaces
pub mod OneResult
pub mod Outright
pub mod ResultSays
pub mod TreeSame
