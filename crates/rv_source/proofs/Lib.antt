pub mod ReadSource
mod SmallParts
mod SmallConstants
