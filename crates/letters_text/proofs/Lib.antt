-- The laws of letters by row.
pub mod StepWord
pub mod LineLaws
pub mod LettersWeigh
pub mod PuttingLetters
pub mod RowsReplayed
pub mod RunFinished
pub mod LettersSuffice
