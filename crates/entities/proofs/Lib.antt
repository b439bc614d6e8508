-- The laws of child codes.
pub mod ChildCodes
