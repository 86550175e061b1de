pub mod Judging
pub mod Nodes
pub mod Reads
