pub mod Traces
pub mod Replays
pub mod Observers
pub mod Playing
