-- How fields and lines are read one after the other: what the functions tell one another.
pub mod Reading
pub mod LinesLeft
