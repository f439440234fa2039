-- What is known of the state of a package's flag in each of some profiles.
use Rattle.std.specs.Prelude.{◌≡◌, ℕ, Bool, true, false, if◌then◌else◌, List, Some, slice_get}
use Rattle.std.specs.List.{list_any}
use Rattle.gv_base.specs.Order.{has_text}
use Rattle.gv_facts.specs.Places.{names_flag}
use Rattle.gv_facts.specs.declared.pkg.Pkg.{Pkg}
use Rattle.gv_facts.specs.declared.profile.Profile.{Profile}
use Rattle.gv_usestate.specs.declared.ruled.FlagKind.{FlagKind}
use Rattle.gv_usestate.specs.declared.ruled.FlagKind.TheVariants.{Plain, Listed, Other}

-- a rule of one of the profiles names the flag
abbrev pub is_ruled : List Profile → (flag : List ℕ) → Bool
is_ruled profiles flag = list_any (λ profile. list_any (names_flag flag) profile.rules) profiles

-- whether the flag is in IUSE, and whether a rule names it
abbrev pub flag_kind : List Profile → Pkg → (flag : List ℕ) → FlagKind
flag_kind profiles p flag = if has_text p.iuse flag then (if is_ruled profiles flag then Listed else Plain) else Other

-- the profile is one of these
pub record IsOneOf (profiles : List Profile) (profile : Profile) : Type 0 where
  pub place : ℕ
  pub there : slice_get profiles place ≡ Some profile

-- what the kind says of the flag in a profile
abbrev pub IsKind : Profile → Pkg → (flag : List ℕ) → FlagKind → Type 0
IsKind profile p flag Plain = (has_text p.iuse flag ≡ true) × (list_any (names_flag flag) profile.rules ≡ false)
IsKind profile p flag Listed = has_text p.iuse flag ≡ true
IsKind profile p flag Other = has_text p.iuse flag ≡ false
