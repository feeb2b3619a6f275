mod Known
mod Found
pub mod Named
mod NoIntegers
mod Sites
mod Integers
mod MainNode
pub mod Judging
mod Reported
mod Joined
pub mod Told
mod Retraced
mod Faults
mod Attached
mod Claimed
mod Cut
mod Loading
pub mod Thresholds
mod Inspected
mod Judged
mod More
mod Toured
