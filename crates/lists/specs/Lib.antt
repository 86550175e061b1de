pub mod Choice
pub mod Member
pub mod Order
pub mod Tests
