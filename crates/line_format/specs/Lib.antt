pub mod Decimals
pub mod Lines
pub mod ReplyLines
pub mod PageLines
