pub mod Pairing
pub mod Placed
pub mod Entering
pub mod Reaching
pub mod Assembling
pub mod Giving
pub mod Sought
