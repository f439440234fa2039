mod Examples
pub mod AppliedLaw
pub mod BelowLaw
pub mod DescKeys
pub mod FlagLaw
pub mod MaskLaw
pub mod MaskLemmas
pub mod PathLemmas
pub mod SliceRests
pub mod SourceLemmas
pub mod StackLaw
pub mod Walks
pub mod WayLemmas
