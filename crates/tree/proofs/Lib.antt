-- The laws of chains over ranges and tables, of the tree table, of rows laid out as one, of its check, and of writing a tree.
pub mod Chains
pub mod TableSteps
pub mod LayingRows
pub mod LaidTable
pub mod OneTreeParts
pub mod AcceptedParts
pub mod Standing
pub mod Under
pub mod OneTreeSays
pub mod EachStands
pub mod AcceptedTree
pub mod AbsentEnds
pub mod EachHosts
pub mod WritingAnswered
pub mod FinishedTables
