-- The laws of reduction.
pub mod SortedRight
pub mod RowRewritten
pub mod RowReduced
pub mod ChainedRows
pub mod ReducedRows
pub mod Unchanged
pub mod ByPlace
pub mod AsTold
pub mod LiveRows
pub mod StaysGood
pub mod CountedReduction
pub mod FirstLike
pub mod ReducedCounts
