pub mod Computed
pub mod DecimalLaws
pub mod ReadingLaws
pub mod PlaceLaws
pub mod SaysRead
pub mod ReadSays
pub mod LineLaws
pub mod ReplyLaws
