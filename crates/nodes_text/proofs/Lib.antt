-- The laws of reading a tree's text.
pub mod CodeFields
pub mod NodeLines
pub mod NodesAhead
