pub mod Joined
mod Grouped
mod FirstLaws
mod OneFault
pub mod Spaced
pub mod Fitting
mod LastFirst
mod TypeMeanings
mod Turned
pub mod Weights
mod Entries
mod ConstantMeanings
mod FirstNames
pub mod KnownLaws
mod FlowSpaces
pub mod ChainLaws
mod Meeting
pub mod RightNames
mod NodeScope
mod MainNode
mod TimingLaws
mod Answered
mod SomeFault
mod NodeFlows
mod Refusals
pub mod Members
pub mod Verdicts
pub mod ConstantContents
pub mod CallSites
mod PartFaults
mod ExpressionKinds
pub mod ConstantKinds
pub mod Paces
pub mod Suiting
mod RightSides
mod NodeKinds
pub mod WellNodes
pub mod RisingConstants
pub mod ConstantValues
pub mod WideParts
mod PutKinds
pub mod DelayedKinds
pub mod HeadKinds
pub mod ToldPaces
pub mod TypedParts
pub mod CallsWithin
pub mod NamePlaces
pub mod PlaceOrders
pub mod DifferentPlaces
