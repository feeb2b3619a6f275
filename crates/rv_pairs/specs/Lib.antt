pub mod Labels
pub mod Shown
pub mod Hints
pub mod Telling
pub mod Taking
pub mod Risen
pub mod Moves
pub mod Keys
