-- What document 02, W-201, says of Newick texts: how a tree is spelled, what a text is read as, and the two calls.
pub mod Grammar
pub mod Writing
pub mod Reading
pub mod Names
pub mod Calls
pub mod RoundTrip
pub mod Stops
pub mod code
