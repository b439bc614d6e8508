-- The laws of reading a program's input.
pub mod LineWords
pub mod TermsAhead
pub mod InputSaid
pub mod LongInput
pub mod TermsRefused
pub mod JobCounted
pub mod JobsRead
