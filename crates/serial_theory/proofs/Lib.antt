pub mod RegularLaws
pub mod CommittedLaws
pub mod EdgeLaws
pub mod RunLaws
pub mod SerialLaws
pub mod JudgedLaws
pub mod Cases
pub mod CaseA
