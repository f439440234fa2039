-- The packages of a repository in the contexts in which they are judged.
use Rattle.std.specs.Prelude.{ℕ, ◌+◌, List, [], ◌∷◌, Option, option_map, flat_map, filter_map}
use Rattle.gv_facts.specs.declared.kinds.Level.{Level}
use Rattle.gv_facts.specs.declared.pkg.Pkg.{Pkg}
use Rattle.gv_facts.specs.declared.profile.Profile.{Profile}
use Rattle.gv_facts.specs.Visible.{judged}
use Rattle.gv_entry.specs.Allowed.{Parent}
use Rattle.gv_entry.specs.declared.entry.Body.{Body}
use Rattle.gv_load.specs.declared.loading.Repo.{Repo}

-- a package with its number and its expressions
pub record Member : Type 0 where
  pub number : ℕ
  pub pkg : Pkg
  pub body : Body

-- where the first has this number
abbrev pub members_from : ℕ → List Pkg → List Body → List Member
members_from n [] bodies = []
members_from n (p ∷ ps) [] = []
members_from n (p ∷ ps) (b ∷ bs) = record { number = n; pkg = p; body = b } ∷ members_from (n + 1) ps bs

abbrev pub members : Repo → List Member
members repo = members_from 0 repo.pkgs repo.bodies

-- a package in a context in which it is judged
pub record Case : Type 0 where
  pub member : Member
  pub parent : Parent

abbrev pub case_at : List Pkg → Member → Profile → Level → Case
case_at among m profile level = record {
  member = m;
  parent = record { pkg = m.pkg; profile = profile; level = level; among = among };
}

-- in a profile, at the one level at which it judges the package, if it does
abbrev pub case_in : List Pkg → Member → Profile → Option Case
case_in among m profile = option_map (case_at among m profile) (judged m.pkg profile)

-- by profile line
abbrev pub cases_of : Repo → Member → List Case
cases_of repo m = filter_map (case_in repo.pkgs m) repo.profiles

-- by package, by profile line
abbrev pub cases : Repo → List Case
cases repo = flat_map (cases_of repo) (members repo)
