mod Expanded
mod RulesAtPlaces
mod FlagSetLemmas
mod NamedLemmas
mod KindLaw
