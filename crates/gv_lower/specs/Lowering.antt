-- What lowering answers.
use Rattle.std.specs.Prelude.{◌≡◌, ℕ, Bool, ◌<◌, ◌≤◌, List, [], length, Result, Ok, Err}
use Rattle.gv_expr.specs.Dep.{Dep}
use Rattle.gv_expr.specs.Required.{Req}
use Rattle.gv_facts.specs.Preferred.{preferred}
use Rattle.gv_entry.specs.Allowed.{Parent}
use Rattle.gv_entry.specs.Weight.{weight}
use Rattle.gv_entry.specs.Queries.{class_flags, required_flags}
use Rattle.gv_lower.specs.QueryGates.{allowed_gates, failing_gates, failing_items}
use Rattle.gv_logic.specs.Circuits.{Circuit}
use Rattle.gv_lower.specs.Weigh.{capped}
use Rattle.gv_lower.specs.declared.query.LowerFault.{LowerFault}
use Rattle.gv_lower.specs.declared.query.LowerFault.TheVariants.{Flags, Weight, NoMemory}
use Rattle.gv_lower.specs.declared.query.Query.{Query}

-- the query has these gates, flags, literals of top items and preferred values
pub record IsQuery (circuit : Circuit) (named : List (List ℕ)) (lits : List ℕ) (values : List Bool) (q : Query) : Type 0 where
  pub gates : q.gates ≡ circuit
  pub flags : q.flags ≡ named
  pub items : q.items ≡ lits
  pub preferred : q.preferred ≡ values

-- of a query with these flags and this weight
abbrev pub Lowered : List (List ℕ) → (weight : ℕ) → (Query → Type 0) → Result Query LowerFault → Type 0
Lowered flags weight right (Ok q) = (length flags ≤ 4096) × (weight ≤ 2000000) × right q
Lowered flags weight right (Err (Flags count)) = (4096 < length flags) × (count ≡ length flags)
Lowered flags weight right (Err (Weight count)) = (length flags ≤ 4096) × (2000000 < weight) × (count ≡ capped weight)
Lowered flags weight right (Err NoMemory) = Unit {0}

-- whether there are too many flags
abbrev pub FewFlags : List (List ℕ) → Result (List (List ℕ)) LowerFault → Type 0
FewFlags flags (Ok inputs) = (length flags ≤ 4096) × (inputs ≡ flags)
FewFlags flags (Err (Flags count)) = (4096 < length flags) × (count ≡ length flags)
FewFlags flags (Err (Weight count)) = ⊥
FewFlags flags (Err NoMemory) = Unit {0}

-- whether the weight is too much
abbrev pub LightWeight : ℕ → Result (Unit {0}) LowerFault → Type 0
LightWeight weight (Ok u) = weight ≤ 2000000
LightWeight weight (Err (Flags count)) = ⊥
LightWeight weight (Err (Weight count)) = (2000000 < weight) × (count ≡ capped weight)
LightWeight weight (Err NoMemory) = Unit {0}

-- the query about REQUIRED_USE alone, and that about a class
abbrev pub LoweredAllowed : Parent → List Req → Result Query LowerFault → Type 0
LoweredAllowed c required result =
    Lowered (required_flags c required) (weight c required []) (IsQuery (allowed_gates c required (required_flags c required)) (required_flags c required) [] (preferred c.pkg (required_flags c required))) result

abbrev pub LoweredFailing : Parent → List Req → List Dep → Result Query LowerFault → Type 0
LoweredFailing c required class result =
    Lowered (class_flags c required class) (weight c required class)
    (IsQuery (failing_gates c required class (class_flags c required class)) (class_flags c required class) (failing_items c required class (class_flags c required class))
    (preferred c.pkg (class_flags c required class))) result
