pub mod Ends
pub mod Plain
pub mod Walks
pub mod Extended
pub mod Falsified
pub mod Paths
pub mod Trails
