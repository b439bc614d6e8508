-- The laws of decimal numbers, of fields and of lines.
pub mod Numerals
pub mod Digits
pub mod DecimalRead
pub mod FieldRead
pub mod FieldsAhead
pub mod FieldsCounted
pub mod Openings
pub mod ReadingFields
pub mod Tabbed
pub mod LineSteps
pub mod LinesJoined
pub mod NumbersTabbed
pub mod PuttingBytes
pub mod NumbersSaid
