-- The laws of steering and of refused lines.
pub mod JournalSteered
pub mod ReasonTold
pub mod SteeredObeyed
pub mod SteerSuffices
