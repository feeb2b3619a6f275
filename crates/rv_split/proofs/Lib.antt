pub mod Pigeons
pub mod Replacing
pub mod Moding
pub mod Walking
pub mod Rooms
pub mod Sets
pub mod Dividing
