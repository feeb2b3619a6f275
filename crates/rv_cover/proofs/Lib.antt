pub mod Chaining
pub mod Rowing
pub mod Assembling
pub mod Grown
pub mod Marking
