pub mod Cancel
pub mod Counts
pub mod Drafts
mod Examples
pub mod GateBytes
pub mod LitLists
pub mod ManyGates
pub mod NodeLemmas
pub mod Steps
pub mod WholeBytes
