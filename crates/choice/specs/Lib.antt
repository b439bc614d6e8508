-- What document 01 says of the choices of a round's nodes, and of the one that is taken.
pub mod Choices
pub mod Choice
pub mod computed
pub mod code
