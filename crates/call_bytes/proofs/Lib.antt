-- The laws of what the calls from C share.
pub mod RefusalNumbers
pub mod RoomFits
pub mod TermsSame
pub mod WordSteps
