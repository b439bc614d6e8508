-- What document 01's table of refusals says of each case.
pub mod Numbers
