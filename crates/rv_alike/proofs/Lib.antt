pub mod Rising
pub mod Lists
pub mod Names
pub mod Rows
pub mod Systems
pub mod Flats
pub mod Documents
