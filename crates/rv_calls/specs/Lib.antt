pub mod Reach
pub mod Graphs
pub mod Numbering
pub mod Callings
pub mod Components
pub mod Loops
pub mod Nodes
pub mod Listing
