-- What document 02, W-211, says of the strings of a tree: which letters they have, what they promise, how they are written, and the call.
pub mod Strings
pub mod Products
pub mod Text
