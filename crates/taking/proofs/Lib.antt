pub mod NodesLaws
pub mod TakenLaws
