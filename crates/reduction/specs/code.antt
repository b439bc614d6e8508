-- How the code marks terms and reduces rows: no public promise needs it.
pub mod Marks
pub mod Promises
