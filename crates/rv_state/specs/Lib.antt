pub mod States
pub mod Narrow
pub mod Predecessors
