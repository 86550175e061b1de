pub mod DueLaws
pub mod WrittenLaws
pub mod FitLaws
pub mod OneCall
pub mod FreshStart
pub mod ReachLaws
pub mod FromFresh
pub mod InTurnLaws
