-- What a reader may rely on of the definitions: laws over all texts, expressions and assignments, which public functions that do
-- nothing state.
use Rattle.std.specs.Prelude.{◌≡◌, ◌↔◌, ◌⊎◌, ◌==◌, ◌&&◌, ℕ, Bool, true, false, is_some, List, [], ◌∷◌, ◌++◌, length, map, codes, MatchOption}
use Rattle.std.specs.List.{list_all, list_any}
use Rattle.gv_base.specs.Cut.{after_prefix}
use Rattle.gv_base.specs.Least.{HasNone, IsLeast}
use Rattle.gv_base.specs.Order.{has_text}
use Rattle.gv_base.specs.Words.{lines_of}
use Rattle.gv_expr.specs.Dep.{Dep, Deps, deps}
use Rattle.gv_expr.specs.Mentions.{dep_mentions, req_mentions}
use Rattle.gv_expr.specs.Required.{Req, Reqs}
use Rattle.gv_facts.specs.declared.kinds.Level.{Level}
use Rattle.gv_facts.specs.declared.pkg.Pkg.{Pkg}
use Rattle.gv_facts.specs.declared.profile.Profile.{Profile}
use Rattle.gv_facts.specs.AtomMet.{atom_met}
use Rattle.gv_facts.specs.Preferred.{preferred}
use Rattle.gv_entry.specs.Allowed.{Allowed, Failing, IsFit, Parent, assignment, bits_of, is_allowed, is_failing, item_holds, query_flags, values_by}
use Rattle.gv_entry.specs.Digests.{digest_in, hex_digit}
use Rattle.gv_entry.specs.EntryValues.{value_of}
use Rattle.gv_entry.specs.Holds.{deps_hold, reqs_hold}
use Rattle.gv_entry.specs.Least.{least}
use Rattle.gv_entry.specs.LeastAssignments.{IsLeastAllowed, IsLeastFailing, NoneAllowed, NoneFailing}
use Rattle.gv_entry.specs.Queries.{class_flags, required_flags}

-- two assignments are the same at these flags
abbrev pub Agree : (on other : List ℕ → Bool) → List (List ℕ) → Type 0
Agree on other flags = (flag : List ℕ) → has_text flags flag ≡ true → on flag ≡ other flag

-- An expression depends on the flags that it mentions alone: as a whole, and each top item of a class.
pub record MentionsLaw : Type 0 where
  pub required : (on other : List ℕ → Bool) (empty : Bool) (ts : Reqs) → Agree on other (req_mentions ts)
      → reqs_hold ts on empty ≡ reqs_hold ts other empty
  pub class : (on other : List ℕ → Bool) (among : List Pkg) (profile : Profile) (level : Level) (empty : Bool) (ts : Deps) → Agree on other (dep_mentions ts)
      → deps_hold ts (atom_met among profile level on) on empty ≡ deps_hold ts (atom_met among profile level other) other empty
  pub items : (c : Parent) (class : List Dep) (on other : List ℕ → Bool) → Agree on other (dep_mentions (deps class))
      → map (item_holds c on) class ≡ map (item_holds c other) class

-- Bits of a query's flags, which say of each whether it hasn't its preferred value, stand for an assignment that fits the
-- flags' states and has the values that the bits say; and an assignment that fits them is, at every flag that was mentioned, that
-- of its own bits.
pub record BitsLaw : Type 0 where
  pub fit : (c : Parent) (mentions : List (List ℕ)) (bits : List Bool) → IsFit c (assignment c (query_flags c mentions) bits)
  pub agree : (c : Parent) (mentions : List (List ℕ)) (on : List ℕ → Bool) → IsFit c on
      → Agree on (assignment c (query_flags c mentions) (bits_of c.pkg (query_flags c mentions) on)) mentions
  pub values : (c : Parent) (mentions : List (List ℕ)) (bits : List Bool) → length bits ≡ length (query_flags c mentions)
      → map (assignment c (query_flags c mentions) bits) (query_flags c mentions) ≡ values_by (preferred c.pkg (query_flags c mentions)) bits

-- Bits pass the test exactly where their assignment is allowed, and an assignment that fits the states is allowed exactly
-- where its bits of a query's flags pass: its other flags make no difference.
pub record AllowedLaw : Type 0 where
  pub bits : (c : Parent) (required : List Req) (mentions : List (List ℕ)) (bits : List Bool)
      → (is_allowed c required (query_flags c mentions) bits ≡ true) ↔ Allowed c required (assignment c (query_flags c mentions) bits)
  pub of_required : (c : Parent) (required : List Req) (on : List ℕ → Bool) → IsFit c on
      → (is_allowed c required (required_flags c required) (bits_of c.pkg (required_flags c required) on) ≡ true) ↔ Allowed c required on
  pub of_class : (c : Parent) (required : List Req) (class : List Dep) (on : List ℕ → Bool) → IsFit c on
      → (is_allowed c required (class_flags c required class) (bits_of c.pkg (class_flags c required class) on) ≡ true) ↔ Allowed c required on

-- The same of failing, and each top item of the class holds alike under the assignment and under that of its bits.
pub record FailingLaw : Type 0 where
  pub bits : (c : Parent) (required : List Req) (class : List Dep) (mentions : List (List ℕ)) (bits : List Bool)
      → (is_failing c required class (query_flags c mentions) bits ≡ true) ↔ Failing c required class (assignment c (query_flags c mentions) bits)
  pub of_class : (c : Parent) (required : List Req) (class : List Dep) (on : List ℕ → Bool) → IsFit c on
      → (is_failing c required class (class_flags c required class) (bits_of c.pkg (class_flags c required class) on) ≡ true) ↔ Failing c required class on
  pub items : (c : Parent) (required : List Req) (class : List Dep) (on : List ℕ → Bool) → IsFit c on
      → map (item_holds c on) class ≡ map (item_holds c (assignment c (class_flags c required class) (bits_of c.pkg (class_flags c required class) on))) class

-- What is found among all lists of bits is lesser than every other that passes the test, and nothing is found only where
-- none passes.
abbrev pub LeastLaw : Type 0
LeastLaw = (test : List Bool → Bool) (n : ℕ) → MatchOption (least test n) (HasNone test n) (IsLeast test n)

-- The bits of REQUIRED_USE's flags decide whether any assignment of all flags is allowed, and which is the least.
pub record LeastAllowedLaw (c : Parent) (required : List Req) : Type 0 where
  pub none : HasNone (is_allowed c required (required_flags c required)) (length (required_flags c required)) ↔ NoneAllowed c required
  pub some : (bits : List Bool) → IsLeast (is_allowed c required (required_flags c required)) (length (required_flags c required)) bits → IsLeastAllowed c required bits
  pub found : MatchOption (least (is_allowed c required (required_flags c required)) (length (required_flags c required))) (NoneAllowed c required) (IsLeastAllowed c required)

-- The bits of a class query's flags decide whether any assignment of all flags is failing, and which is the least.
pub record LeastFailingLaw (c : Parent) (required : List Req) (class : List Dep) : Type 0 where
  pub none : HasNone (is_failing c required class (class_flags c required class)) (length (class_flags c required class)) ↔ NoneFailing c required class
  pub some : (bits : List Bool) → IsLeast (is_failing c required class (class_flags c required class)) (length (class_flags c required class)) bits
      → IsLeastFailing c required class bits
  pub found : MatchOption (least (is_failing c required class (class_flags c required class)) (length (class_flags c required class))) (NoneFailing c required class) (IsLeastFailing c required class)

-- whether the line begins with the key and `=`
abbrev pub is_line_of : (key line : List ℕ) → Bool
is_line_of key line = is_some (after_prefix (key ++ codes "=") line)

-- the first line of the key has the value
pub record HasFirst (key value : List ℕ) (lines : List (List ℕ)) : Type 0 where
  pub before : List (List ℕ)
  pub after : List (List ℕ)
  pub lines_are : lines ≡ before ++ ((key ++ codes "=") ++ value) ∷ after
  pub none_before : list_any (is_line_of key) before ≡ false

-- it has, or there is no such line and the value is empty
abbrev pub IsValue : (key value : List ℕ) → List (List ℕ) → Type 0
IsValue key value lines = HasFirst key value lines ⊎ ((list_any (is_line_of key) lines ≡ false) × (value ≡ []))

-- 0 to 9, a to f, A to F
abbrev pub is_hex_digit : ℕ → Bool
is_hex_digit b = is_some (hex_digit b)

-- the value of a key is that of the first line that begins with the key and `=`, and is empty where there is none
abbrev pub ValueLaw : Type 0
ValueLaw = (key text : List ℕ) → IsValue key (value_of key text) (lines_of text)

-- a text is read as a digest exactly where it is 32 hexadecimal digits of either case
abbrev pub DigestLaw : Type 0
DigestLaw = (text : List ℕ) → is_some (digest_in text) ≡ (length text == 32 && list_all is_hex_digit text)
