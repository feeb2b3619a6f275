pub mod Sizes
pub mod Totals
pub mod Capped
pub mod Memories
pub mod Tests
pub mod Ticks
pub mod TickWalk
pub mod Sized
