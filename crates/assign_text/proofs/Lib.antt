-- The laws of what `assign` prints.
pub mod AssignedRows
pub mod AssignmentPrinted
pub mod AssignSuffices
