pub mod Claiming
pub mod Order
pub mod Certify
pub mod Renumbered
