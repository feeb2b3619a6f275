pub mod Weighing
pub mod Sided
pub mod WeightTables
pub mod WideNodes
pub mod Sequenced
pub mod FlowGraphs
pub mod Needed
pub mod Cycles
