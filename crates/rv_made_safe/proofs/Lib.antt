pub mod Lists
pub mod Equations
pub mod Flows
pub mod Nodes
pub mod Control
pub mod Instants
pub mod Chain
