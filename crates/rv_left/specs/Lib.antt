pub mod Meeting
pub mod Fronts
pub mod Failures
pub mod Turns
pub mod Becoming
pub mod Targets
pub mod Entries
pub mod Reports
