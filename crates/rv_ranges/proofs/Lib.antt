pub mod Recording
pub mod Documenting
pub mod Parities
