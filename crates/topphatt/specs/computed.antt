-- The rounds as a computation: they are proved to be those that the records describe, so a reader can pass over them.
pub mod Rounding
