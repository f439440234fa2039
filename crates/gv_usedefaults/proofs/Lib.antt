mod Examples
pub mod FlagLemmas
pub mod GoingLemmas
pub mod LineTurning
pub mod Members
pub mod Names
pub mod PlaceMaps
pub mod Places
pub mod Reached
pub mod SelectedLemmas
pub mod Sets
pub mod WalkLaw
pub mod WalkLemmas
