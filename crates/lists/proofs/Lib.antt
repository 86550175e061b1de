pub mod ChoiceLaws
pub mod MemberLaws
pub mod TestLaws
pub mod OrderLaws
pub mod RisingLaws
pub mod PlaceLaws
pub mod ShiftLaws
