pub mod BitLists
mod MaskPlaces
pub mod NameMap
mod NextPlaces
mod Placed
mod Levels
mod Matched
