-- The laws of the tree weight and of the operators that it counts.
pub mod TreeWeighing
pub mod Survivors
pub mod SurvivingWeigh
pub mod WalkedRow
pub mod SurvivingRows
pub mod OperatorsOnce
pub mod OperatorsWeighed
pub mod CountedOnce
