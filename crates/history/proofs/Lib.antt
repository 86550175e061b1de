pub mod OtherKinds
pub mod WalkLaws
pub mod PassedLaws
pub mod SettleLaws
pub mod NodesLaws
pub mod JudgedLaws
