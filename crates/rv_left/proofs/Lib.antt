pub mod Sharing
pub mod Rounds
pub mod Quantifying
pub mod Turning
pub mod Replaced
pub mod Aiming
pub mod Bridging
pub mod Certified
