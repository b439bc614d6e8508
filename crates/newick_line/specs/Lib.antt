-- What document 02, W-201, says of the program `newick`: the line that it prints.
pub mod NewickLine
pub mod code
