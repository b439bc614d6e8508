-- The laws of slots and of the nodes of a round.
pub mod SlotCases
pub mod SlotNumbers
pub mod DistanceSteps
pub mod Distances
pub mod NodeBounds
pub mod ActiveNodes
pub mod AcceptedFits
pub mod ActiveSlots
pub mod FirstRound
