-- What the record of a choice says, as a computation: it is proved to be what the record describes, so a reader can pass over it.
pub mod Choosing
