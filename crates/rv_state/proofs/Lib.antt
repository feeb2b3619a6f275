pub mod PointLemmas
pub mod CaseLemmas
pub mod SetLemmas
pub mod JoinLemmas
pub mod NarrowLemmas
