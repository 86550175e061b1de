pub mod MatrixLaws
pub mod AddingLaws
pub mod DrawnLaws
pub mod RankedLaws
pub mod DrawingLaws
