pub mod Lists
pub mod Settings
