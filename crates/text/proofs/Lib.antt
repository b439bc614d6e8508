-- The laws of the programs' text.
pub mod PrintedLines
pub mod InputRan
pub mod RunEnds
pub mod LongInput
pub mod RoomSuffices
pub mod NewLinesSuffice
pub mod ContinuesWhole
