pub mod Extending
pub mod Reading
pub mod Projecting
pub mod Parting
pub mod Scheduling
pub mod Wording
