-- The laws of what `best` prints.
pub mod MergesPrinted
pub mod BestPrinted
