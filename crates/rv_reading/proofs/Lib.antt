pub mod Representing
pub mod Columns
pub mod Analysed
