pub mod Onces
pub mod Readings
