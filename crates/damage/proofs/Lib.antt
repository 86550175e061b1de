pub mod PassLaws
pub mod RowLaws
pub mod DamageLaws
