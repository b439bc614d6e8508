-- How the code keeps a run; what document 01 says of a run stands in `history`.
pub mod code
