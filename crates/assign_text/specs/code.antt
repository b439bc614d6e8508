-- How the code goes about an assignment: no promise needs it.
pub mod Finding
