pub mod BitLaws
pub mod TableLaws
pub mod ScanLaws
pub mod IntactLaws
