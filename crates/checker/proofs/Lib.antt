pub mod OrderedLaws
pub mod RankedLaws
pub mod GraphLaws
pub mod CheckedLaws
