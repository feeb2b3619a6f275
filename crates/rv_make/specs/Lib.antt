pub mod Made
pub mod Chains
