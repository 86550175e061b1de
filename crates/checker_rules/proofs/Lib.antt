pub mod RefusalLaws
pub mod CheckLaws
pub mod VerdictLaws
pub mod OrderLaws
pub mod EachLaws
pub mod PanelLaws
pub mod LeavesLaws
