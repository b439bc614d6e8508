-- What document 02, W-211, has a program print: the strings of a tree.
pub mod Printing
pub mod code
