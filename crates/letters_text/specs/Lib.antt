-- What `letters` prints: the letter of each live row at a step.
pub mod Lettering
pub mod code
