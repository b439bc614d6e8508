-- What the functions of the reader tell one another, and how they count nodes: no promise needs it.
pub mod Promises
pub mod Within
