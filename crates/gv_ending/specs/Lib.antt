pub mod Causes
pub mod World
pub mod Fetching
pub mod Endings
