pub mod Differing
pub mod Verifying
