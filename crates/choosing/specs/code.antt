-- How the code goes through the lawful pairs: no promise needs it.
pub mod Couples
pub mod Seeking
