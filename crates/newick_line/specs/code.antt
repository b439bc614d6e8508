-- How the code prints a line: no promise needs it.
pub mod Lines
