mod Examples
mod IndexLemmas
mod JudgedLaw
mod MeetsLaw
mod PlacesLemmas
