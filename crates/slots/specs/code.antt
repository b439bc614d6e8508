-- What the functions on slots and nodes promise whoever calls them: no definition for readers needs it.
pub mod Numbers
pub mod Promises
pub mod Restrictions
