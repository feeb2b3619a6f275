pub mod Steps
pub mod Held
pub mod Needs
pub mod Passing
pub mod Samples
pub mod Judging
