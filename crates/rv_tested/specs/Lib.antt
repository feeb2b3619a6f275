pub mod Exact
pub mod Rows
pub mod Compared
pub mod Testing
