pub mod Turning
pub mod Opening
pub mod Raising
pub mod Growing
pub mod Nexting
