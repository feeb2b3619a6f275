pub mod Cutting
pub mod Counted
pub mod Placed
pub mod Spelling
pub mod Weighed
pub mod Running
pub mod Falsified
