-- How the code reads a tree's text: no promise needs it.
pub mod Reading
