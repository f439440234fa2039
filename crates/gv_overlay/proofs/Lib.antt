pub mod Causes
pub mod Layouts
pub mod Loads
pub mod OneOrder
pub mod OneOverlay
pub mod OwnLemmas
