pub mod Cuts
pub mod Found
pub mod Labelled
pub mod Made
pub mod Typed
