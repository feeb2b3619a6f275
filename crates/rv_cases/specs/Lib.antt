pub mod Conditions
pub mod Questions
pub mod Telling
pub mod Made
pub mod Samples
