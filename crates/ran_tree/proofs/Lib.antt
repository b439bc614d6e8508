-- The laws of the tree that a run ends in: how it is told and printed, and that a tree's text with room for all is never refused by 5.
pub mod TreeEnds
pub mod WritingNever
pub mod RunsAccepted
