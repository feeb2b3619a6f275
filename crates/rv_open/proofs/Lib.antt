pub mod Open
pub mod Carried
pub mod Rest
