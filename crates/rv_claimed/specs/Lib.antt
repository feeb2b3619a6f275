pub mod Placing
pub mod Certifying
pub mod Building
pub mod Searching
