mod LeftLemmas
mod MergeLemmas
mod PartLemmas
