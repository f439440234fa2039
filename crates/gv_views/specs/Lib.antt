pub mod Areas
pub mod Layout
pub mod Told
pub mod Views
