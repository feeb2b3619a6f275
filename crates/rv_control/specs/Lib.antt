pub mod Tightening
pub mod Named
pub mod Symbolic
pub mod Control
pub mod Meets
pub mod Spelled
pub mod Tests
