-- What a run writes, as a computation: it is proved to be what the record of a call that is done says, so a reader can pass over it.
pub mod NewText
