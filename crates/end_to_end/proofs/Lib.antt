pub mod Computed
pub mod RightLaws
pub mod BytesLaws
pub mod RisingEdges
pub mod Demand3Laws
pub mod Calls
pub mod NotEmptilyLaws
pub mod CheckedLaws
