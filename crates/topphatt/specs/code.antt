-- What holds from round to round in the code: no promise needs it.
pub mod Going
