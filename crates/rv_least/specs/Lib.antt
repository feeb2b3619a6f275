pub mod Turned
pub mod Opened
pub mod Rising
pub mod Rounds
