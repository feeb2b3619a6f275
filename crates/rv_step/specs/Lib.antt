pub mod Surroundings
pub mod Ranges
pub mod Stepping
