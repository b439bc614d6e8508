-- The laws of the choices of a round's nodes, and of the one that is taken.
pub mod FreeModes
pub mod NumberBounds
pub mod ChosenBelow
pub mod ChosenRight
pub mod ChosenOne
pub mod SoughtSteps
pub mod OrdersAgree
pub mod NumberedChoices
pub mod ChosenSought
