pub mod Nodes
pub mod Taken
