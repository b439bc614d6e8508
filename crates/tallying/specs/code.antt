-- What the tables of a couple hold: no promise needs it.
pub mod Tallies
pub mod Pairs
