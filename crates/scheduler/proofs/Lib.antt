pub mod StateLaws
pub mod CallLaws
pub mod FreshLaws
