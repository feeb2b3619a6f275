pub mod Points
pub mod Meetings
pub mod Openings
pub mod Risings
