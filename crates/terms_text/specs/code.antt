-- How the code reads a text: no promise needs it.
pub mod Reading
pub mod JobsRead
