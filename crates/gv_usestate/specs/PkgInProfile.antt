-- A package in a profile at a level.
use Rattle.gv_facts.specs.declared.kinds.Level.{Level}
use Rattle.gv_facts.specs.declared.pkg.Pkg.{Pkg}
use Rattle.gv_facts.specs.declared.profile.Profile.{Profile}

pub record PkgInProfile : Type 0 where
  pub pkg : Pkg
  pub profile : Profile
  pub level : Level
