-- The laws of the rows of a finished run while they are written.
pub mod Walking
