-- What is counted of rows so that a couple's triples are weighed in one reading: no promise to readers needs it.
pub mod code
