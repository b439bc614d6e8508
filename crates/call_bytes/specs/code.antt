-- How the code of the calls from C goes about it: no promise needs it.
pub mod Handing
pub mod Reading
