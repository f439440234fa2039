mod Examples
pub mod Better
pub mod LineSteps
pub mod Nowhere
pub mod Rests
