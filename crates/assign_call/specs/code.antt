-- How the code of assigning on bytes goes about it: no promise needs it.
pub mod Handing
pub mod Reading
