pub mod Listed
mod Mapped
pub mod Named
pub mod Room
