pub mod Graph
pub mod Taking
pub mod Walking
pub mod Verdict
pub mod Standing
pub mod SmallGraphs
