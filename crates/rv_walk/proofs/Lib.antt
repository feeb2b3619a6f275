pub mod Counting
pub mod Stages
pub mod Rounds
pub mod Certifying
pub mod Ending
pub mod Joining
pub mod Trailing
