pub mod Items
pub mod PageTable
