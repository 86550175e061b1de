pub mod Matrix
pub mod Drawn
pub mod Adding
pub mod Ranked
