pub mod Left
pub mod Merging
pub mod Parts
