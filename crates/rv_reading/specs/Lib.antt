pub mod Read
pub mod Lending
pub mod Analysing
