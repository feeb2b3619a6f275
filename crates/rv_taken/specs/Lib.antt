pub mod Taken
pub mod Meeting
pub mod Rising
