-- What contracts see of a repository with its views; and for invariants, what it and the view of a profile are made of.
-- Packages are found by name in the map that their list keeps, and what each profile shows of them at each level is
-- asked once (`VisiblePkgs`); the candidates of each context are lent both. Where few packages are asked about, as
-- after one edit, a view asks nothing of all packages, its candidates are tested one by one, and no sets are made,
-- neither of a profile's flags and packages nor of the flags that rules name.
use Rattle.std.specs.Prelude.{◌≡◌, List, map, Option, IfSome}
use Rattle.gv_facts.specs.declared.pkg.Pkg.{Pkg}
use Rattle.gv_facts.specs.declared.profile.Profile.{Profile}
use Rattle.gv_visible.specs.Candidates.{VisiblePkgs}
use Rattle.gv_report.specs.declared.options.Options.{Options}
use Rattle.gv_load.specs.declared.loading.Repo.{Repo}
use Rattle.gv_plain.specs.Seen.{seen}

-- the states of its flags, and what it shows of the packages, where that was asked of all
pub record HasParts (pkgs : List Pkg) (profile : Profile) (states : Profile) (shown : Option VisiblePkgs) : Type 0 where
  pub states_are : states ≡ profile
  pub shown_are : IfSome shown (λ s. s ≡ seen pkgs profile)

-- a repository under options
pub record ViewedRepo : Type 0 where
  pub repo : Repo
  pub options : Options

-- what rules of its profiles name, and what each of them shows
pub record HasViews (repo : Repo) (ruled : List Profile) (views : List VisiblePkgs) : Type 0 where
  pub ruled_are : ruled ≡ repo.profiles
  pub views_are : views ≡ map (seen repo.pkgs) repo.profiles
