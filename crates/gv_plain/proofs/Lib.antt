pub mod PlainLemmas
pub mod ViewLemmas
mod Examples
