pub mod Becoming
pub mod Away
