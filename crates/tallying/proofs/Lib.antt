-- The laws of counts over rows.
pub mod Parities
pub mod OddRows
pub mod RowsTallied
pub mod PairsTurned
pub mod PairsWeighed
