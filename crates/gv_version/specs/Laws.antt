-- What a reader may rely on of the order of versions, of their fronts and of the division of a PF; over all texts.
use Rattle.std.specs.Prelude.{◌≡◌, ℕ, ◌+◌, Bool, true, ◌||◌, List, ◌∷◌, ◌++◌, length, drop, None, Some}
use Rattle.std.specs.Str.{byte}
use Rattle.std.specs.Ordering.{is_le, ordering_reverse}
use Rattle.std.specs.declared.cmp.Ordering.{Ordering}
use Rattle.std.specs.declared.cmp.Ordering.TheVariants.{Equal}
use Rattle.gv_version.specs.Names.{is_package, split_pf}
use Rattle.gv_version.specs.Form.{HasForm, has_form, is_version, long_run}
use Rattle.gv_version.specs.Order.{compare}

-- a total order up to versions that it calls equal, which are alike against every third
pub record IsOrder (order : List ℕ → List ℕ → Ordering) : Type 0 where
  pub reflexive : (a : List ℕ) → order a a ≡ Equal
  pub total : (a b : List ℕ) → (is_le (order a b) || is_le (order b a)) ≡ true
  pub antisymmetric : (a b : List ℕ) → is_le (order a b) ≡ true → is_le (order b a) ≡ true → order a b ≡ Equal
  pub transitive : (a b c : List ℕ) → is_le (order a b) ≡ true → is_le (order b c) ≡ true → is_le (order a c) ≡ true
  pub reversed : (a b : List ℕ) → order b a ≡ ordering_reverse (order a b)
  pub alike : (a b c : List ℕ) → order a b ≡ Equal → order a c ≡ order b c

pub record IsSameness (same : List ℕ → List ℕ → Bool) : Type 0 where
  pub reflexive : (a : List ℕ) → same a a ≡ true
  pub symmetric : (a b : List ℕ) → same a b ≡ true → same b a ≡ true
  pub transitive : (a b c : List ℕ) → same a b ≡ true → same b c ≡ true → same a c ≡ true

-- each text begins itself, what begins a front begins the whole, and texts of the form that begin each other are equal
pub record IsFronts (begins : List ℕ → List ℕ → Bool) : Type 0 where
  pub reflexive : (a : List ℕ) → begins a a ≡ true
  pub transitive : (a b c : List ℕ) → begins a b ≡ true → begins b c ≡ true → begins a c ≡ true
  pub equal : (a b : List ℕ) → has_form a ≡ true → has_form b ≡ true → begins a b ≡ true → begins b a ≡ true → compare a b ≡ Equal

-- a hyphen at the place divides the bytes into a package name and a text of version form
pub record Divides (bytes : List ℕ) (at : ℕ) : Type 0 where
  pub name : List ℕ
  pub version : List ℕ
  pub written : name ++ byte "-" ∷ version ≡ bytes
  pub place : length name ≡ at
  pub name_form : is_package name ≡ true
  pub version_form : HasForm version

-- a PF is divided at the one such hyphen, if no run of digits behind it is too long
pub record IsDivided (bytes : List ℕ) : Type 0 where
  pub one : (i j : ℕ) → Divides bytes i → Divides bytes j → i ≡ j
  pub there : (at : ℕ) → split_pf bytes ≡ Some at → Divides bytes at × (is_version (drop (at + 1) bytes) ≡ true)
  pub found : (at : ℕ) → Divides bytes at → long_run (drop (at + 1) bytes) ≡ None → split_pf bytes ≡ Some at
