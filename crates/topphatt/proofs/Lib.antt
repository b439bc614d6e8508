-- The laws of assignment.
pub mod FairCounts
pub mod SomeChoice
pub mod RoundGives
pub mod RoundsGo
pub mod AnswerShape
pub mod AnswerAccepted
pub mod RoundsWent
pub mod AssignDone
pub mod OutcomeRight
pub mod AnswerFinished
pub mod OneAnswer
pub mod RoundList
pub mod ChosenLeaves
pub mod WeightAtMost
pub mod FixedSteps
pub mod RoundSteps
pub mod Answers
