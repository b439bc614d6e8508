-- What document 01 says of slots, and of the nodes of a round.
pub mod Slots
pub mod Heuristics
pub mod Nodes
pub mod code
