pub mod Combined
pub mod Judged
pub mod Loaded
pub mod Overlays
pub mod Refused
