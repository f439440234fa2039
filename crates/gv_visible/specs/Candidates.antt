-- What contracts see of candidates, and of the packages that a profile shows.
use Rattle.std.specs.Prelude.{List}
use Rattle.gv_facts.specs.declared.kinds.Level.{Level}
use Rattle.gv_facts.specs.declared.pkg.Pkg.{Pkg}
use Rattle.gv_facts.specs.declared.profile.Profile.{Profile}

-- packages, the profile and the level at which they are looked at, and a test of packages
pub record Candidates (F : Type 0) : Type 0 where
  pub pkgs : List Pkg
  pub profile : Profile
  pub level : Level
  pub test : F

abbrev pub pkgs_of : {F : Type 0} → Candidates F → List Pkg
pkgs_of c = c.pkgs

abbrev pub profile_of : {F : Type 0} → Candidates F → Profile
profile_of c = c.profile

abbrev pub level_of : {F : Type 0} → Candidates F → Level
level_of c = c.level

abbrev pub test_of : {F : Type 0} → Candidates F → F
test_of c = c.test

-- packages and the profile at which they are looked at
pub record VisiblePkgs : Type 0 where
  pub pkgs : List Pkg
  pub profile : Profile
