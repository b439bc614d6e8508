-- The laws of drops by step.
pub mod DropLines
pub mod DropsPrinted
