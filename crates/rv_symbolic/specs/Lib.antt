pub mod Growing
pub mod Variables
pub mod Linked
pub mod Represented
pub mod Stepped
pub mod Parted
pub mod Words
