-- The least allowed and the least failing assignment, among all assignments of all flags.
use Rattle.std.specs.Prelude.{◌≡◌, ◌≢◌, ◌⊎◌, ℕ, Bool, not, List, [], ◌∷◌, length, map}
use Rattle.gv_expr.specs.Dep.{Dep}
use Rattle.gv_expr.specs.Required.{Req}
use Rattle.gv_facts.specs.Preferred.{preferred_on}
use Rattle.gv_facts.specs.declared.pkg.Pkg.{Pkg}
use Rattle.gv_entry.specs.Allowed.{Parent, Allowed, Failing, assignment}
use Rattle.gv_entry.specs.Queries.{class_flags, required_flags}

-- of two assignments of these flags the lesser has the value that the package prefers at the first flag where they differ
abbrev pub IsLesser : Pkg → List (List ℕ) → (one other : List ℕ → Bool) → Type 0
IsLesser p [] one other = ⊥
IsLesser p (f ∷ fs) one other = ((one f ≡ preferred_on p f) × (other f ≡ not (preferred_on p f))) ⊎ ((one f ≡ other f) × IsLesser p fs one other)

-- a bit for each flag of the query; with the other flags as their states are, they are allowed, and lesser than every allowed
-- assignment that differs at a flag of the query
pub record IsLeastAllowed (c : Parent) (required : List Req) (bits : List Bool) : Type 0 where
  pub size : length bits ≡ length (required_flags c required)
  pub allowed : Allowed c required (assignment c (required_flags c required) bits)
  pub lesser : (on : List ℕ → Bool) → Allowed c required on → map on (required_flags c required) ≢ map (assignment c (required_flags c required) bits) (required_flags c required)
      → IsLesser c.pkg (required_flags c required) (assignment c (required_flags c required) bits) on

-- no assignment is allowed
abbrev pub NoneAllowed : Parent → List Req → Type 0
NoneAllowed c required = (on : List ℕ → Bool) → Allowed c required on → ⊥

-- the same of failing ones
pub record IsLeastFailing (c : Parent) (required : List Req) (class : List Dep) (bits : List Bool) : Type 0 where
  pub size : length bits ≡ length (class_flags c required class)
  pub failing : Failing c required class (assignment c (class_flags c required class) bits)
  pub lesser : (on : List ℕ → Bool) → Failing c required class on → map on (class_flags c required class) ≢ map (assignment c (class_flags c required class) bits) (class_flags c required class)
      → IsLesser c.pkg (class_flags c required class) (assignment c (class_flags c required class) bits) on

-- no assignment is failing
abbrev pub NoneFailing : Parent → List Req → List Dep → Type 0
NoneFailing c required class = (on : List ℕ → Bool) → Failing c required class on → ⊥
