pub mod Led
pub mod Exits
