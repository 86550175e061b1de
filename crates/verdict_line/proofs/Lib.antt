pub mod SpacedLaws
pub mod TellingLaws
