pub mod LastLaws
pub mod ChainLaws
pub mod RowLaws
