pub mod GraphLaws
pub mod TakingLaws
pub mod TurningLaws
pub mod WalkingLaws
pub mod VerdictLaws
pub mod StandingLaws
pub mod SmallGraphs
