pub mod Orders
pub mod Observers
pub mod FlatTraces
pub mod FlatSteps
pub mod Answers
pub mod Answered
pub mod Turns
pub mod Sources
