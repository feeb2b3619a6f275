pub mod Premises
pub mod Entries
pub mod Covering
pub mod Seeking
pub mod Toward
pub mod Marks
