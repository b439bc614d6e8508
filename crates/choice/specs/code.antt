-- How the code goes through a round's choices: no promise needs it.
pub mod Numbered
pub mod Kept
pub mod Seeking
