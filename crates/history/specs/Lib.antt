-- What document 01 says of merges: open entities, lawful triples, the choice of a step, the run, its rows and its trials.
pub mod History
pub mod Images
pub mod Drops
pub mod Lawful
pub mod Choice
pub mod Run
pub mod Flatpack
pub mod Trials
pub mod computed
