-- How the code reads a sequence back: no promise needs it.
pub mod MergesRead
