pub mod Fields
pub mod Reading
pub mod Right
pub mod Ranks
pub mod Timestamps
pub mod Cases
