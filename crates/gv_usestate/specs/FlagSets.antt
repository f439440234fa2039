-- For invariants: what hash sets of flags hold, of those that rules name and of those that a profile makes effective.
use Rattle.std.specs.Prelude.{◌≡◌, ℕ, Bool, List, ◌++◌}
use Rattle.std.specs.Borrow.{Bor}
use Rattle.std.specs.List.{list_any}
use Rattle.std.specs.Str.{bytes_eq}
use Rattle.gv_base.specs.ByteMap.{Bytes}
use Rattle.gv_base.specs.Order.{has_text}
use Rattle.gv_facts.specs.Effective.{expand_flags, unprefixed_flags}
use Rattle.gv_facts.specs.declared.profile.Profile.{Profile}
use Rattle.gv_usestate.specs.Kinds.{is_ruled}

abbrev pub is_key : (flag : List ℕ) → Bor (List ℕ) → Bool
is_key flag key = bytes_eq flag key.now

abbrev pub has_flag : List (Bor (List ℕ)) → (flag : List ℕ) → Bool
has_flag keys flag = list_any (is_key flag) keys

-- the flags that rules of the profiles name
abbrev pub AreRuled : List (Bor (List ℕ)) → List Profile → Type 0
AreRuled keys profiles = (flag : List ℕ) → has_flag keys flag ≡ is_ruled profiles flag

-- the same of keys that own their bytes
abbrev pub has_owned : List Bytes → (flag : List ℕ) → Bool
has_owned keys flag = list_any (λ (key : Bytes). bytes_eq flag key.items) keys

-- the flags that are effective in the profile for each package
abbrev pub implicit_flags : Profile → List (List ℕ)
implicit_flags profile = profile.iuse_implicit ++ (expand_flags profile ++ unprefixed_flags profile)

abbrev pub AreImplicit : List Bytes → Profile → Type 0
AreImplicit keys profile = (flag : List ℕ) → has_owned keys flag ≡ has_text (implicit_flags profile) flag
