pub mod Gathering
pub mod Tellings
pub mod Placing
pub mod Keeping
pub mod Covering
pub mod Differing
pub mod Sampling
