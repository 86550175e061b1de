pub mod WellFormed
pub mod Wrong
pub mod Faults
pub mod History
pub mod Answers
pub mod Held
pub mod Refusals
pub mod SmallLogs
