pub mod NoteLaws
pub mod WalkLaws
