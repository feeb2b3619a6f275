pub mod MemorySites
pub mod Grouped
