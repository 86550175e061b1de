pub mod OverLaws
pub mod PlacedLaws
pub mod JudgesLaws
pub mod OnlyLaws
pub mod FreshLaws
pub mod LateLaws
pub mod PageTableLaws
