-- What the record of the best says, as a computation: it is proved to be what the record describes, so a reader can pass over it.
pub mod Lightest
