pub mod FlagPlaces
pub mod FlagSets
pub mod Kinds
pub mod NamedPkgs
pub mod PkgInProfile
pub mod RulesInTurn
