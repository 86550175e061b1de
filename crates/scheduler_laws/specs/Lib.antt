pub mod Reach
pub mod Said
pub mod InTurn
