pub mod Checker
pub mod Marks
pub mod PrivateWords
pub mod Reached
pub mod Rules
