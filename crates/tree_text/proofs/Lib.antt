-- The laws of what is printed for a tree's text.
pub mod TreeLaid
pub mod AnswersPrinted
pub mod NodesRead
