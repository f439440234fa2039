mod CauseLemmas
mod EditLemmas
mod JudgingLemmas
mod SessionLemmas
mod SmallLemmas
