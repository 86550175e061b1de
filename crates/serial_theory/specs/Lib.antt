pub mod Edges
pub mod EdgeTest
pub mod Serial
pub mod Judged
pub mod Cases
