-- How the code goes through the sequences: no promise needs it.
pub mod Numbered
