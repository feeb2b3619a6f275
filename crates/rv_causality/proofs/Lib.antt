pub mod OneCause
pub mod Answered
pub mod SequenceCause
