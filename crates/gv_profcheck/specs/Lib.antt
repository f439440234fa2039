pub mod PrivateWords
pub mod Redundant
pub mod Unknown
