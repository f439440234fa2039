pub mod Gains
pub mod Joined
