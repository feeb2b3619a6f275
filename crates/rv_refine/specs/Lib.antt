pub mod Sides
pub mod Frames
pub mod Bounds
pub mod Plans
pub mod Hulls
