pub mod Adding
pub mod Combining
pub mod Sums
pub mod Finding
pub mod Multiples
pub mod Classes
pub mod Summing
