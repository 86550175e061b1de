pub mod Kind
pub mod Refusal
pub mod Plans
pub mod Decided
pub mod Moves
