-- The laws of rows and their weight.
pub mod RuleNumbers
pub mod RowSteps
pub mod GoodSteps
pub mod OwnRows
pub mod RowPut
pub mod CountedRows
pub mod LetterLaws
pub mod Weighing
pub mod WeightBound
pub mod GoodModes
pub mod GoodTerms
