pub mod Reaver
pub mod Asked
pub mod Plain
pub mod Words
pub mod Ranges
