pub mod Thresholds
pub mod Risen
pub mod Claiming
pub mod Intervals
pub mod Sides
pub mod Columns
pub mod Cuts
pub mod Tops
