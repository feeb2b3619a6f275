pub mod Shown
pub mod Reading
pub mod Keeping
pub mod OneStep
mod Typed
pub mod TickSteps
pub mod SameFronts
