-- How the code makes the choice of a step; what document 01 says of that choice stands in `history`.
pub mod code
