-- How the code obeys lines: no promise needs it.
pub mod Openings
pub mod Obeys
