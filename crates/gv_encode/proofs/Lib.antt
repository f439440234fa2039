pub mod Forced
pub mod NextGate
pub mod Ranges
pub mod Roots
pub mod Truth
pub mod Values
