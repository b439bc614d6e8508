-- The laws of the printed Newick line.
pub mod LinePrinted
pub mod LineSuffices
pub mod RunsWritten
