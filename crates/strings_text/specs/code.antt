-- What the code that prints strings tells of it.
pub mod Reading
