pub mod PairLemmas
pub mod SideLemmas
pub mod LeastLemmas
pub mod BoundLemmas
pub mod FloorLemmas
