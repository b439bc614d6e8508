-- What each P case of document 01 claims.
pub mod Cases
