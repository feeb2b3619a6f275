pub mod Falsifying
pub mod Decoding
