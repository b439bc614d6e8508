-- How the code runs a text and prints of it: no promise needs it.
pub mod Runs
pub mod Printing
