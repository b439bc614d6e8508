-- The P cases hold, and decide what document 01 says that they decide.
pub mod CasesHold
pub mod Decided
