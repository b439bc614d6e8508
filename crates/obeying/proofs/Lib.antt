-- The laws of lines that are read, judged and obeyed.
pub mod LineSaid
pub mod LineRead
pub mod LineJudged
pub mod LineObeyed
pub mod LinesObeyed
pub mod JournalObeyed
pub mod Obedience
pub mod LineRefused
