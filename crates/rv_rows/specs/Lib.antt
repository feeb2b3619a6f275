pub mod Rows
pub mod Multipliers
pub mod Tight
pub mod Forms
pub mod Arithmetic
