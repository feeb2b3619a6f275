mod Framing
pub mod Planning
pub mod Judging
