pub mod Demand3
pub mod NotEmptily
pub mod Checked
