-- The laws of the sequences of merges and of the best of them.
pub mod LawfulTriples
pub mod SequencesRight
pub mod StepCount
pub mod EqualParts
pub mod SequenceNumbers
pub mod TriplesNumbered
pub mod LightestSoFar
pub mod LightestBest
pub mod MergesKept
pub mod TreeKept
pub mod LawfulNumbered
pub mod NumberedMerges
pub mod NumbersPut
pub mod LeadOn
pub mod BestAnswers
