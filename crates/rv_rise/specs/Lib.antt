pub mod Limits
pub mod Sides
pub mod Table
pub mod Rounds
