-- The gates of a query. Inputs are the query's flags, each on where the flag hasn't its preferred value; the first gates are one
-- that is true and one that is false.
use Rattle.std.specs.Prelude.{ℕ, ◌+◌, ◌*◌, Bool, false, if◌then◌else◌, List, [], ◌∷◌, ◌++◌, length}
use Rattle.std.specs.Str.{bytes_eq}
use Rattle.gv_expr.specs.Dep.{Dep, deps}
use Rattle.gv_expr.specs.Required.{Req, reqs}
use Rattle.gv_facts.specs.Preferred.{preferred_on}
use Rattle.gv_entry.specs.Allowed.{Parent, parent_state, is_forced}
use Rattle.gv_entry.specs.Holds.{empty_holds}
use Rattle.gv_logic.specs.declared.gates.Op.TheVariants.{And, Or}
use Rattle.gv_logic.specs.Circuits.{Gate, Circuit}
use Rattle.gv_lower.specs.Plans.{Part, Parts, in_turn, built_on}
use Rattle.gv_lower.specs.Groups.{all_of}
use Rattle.gv_lower.specs.TreeGates.{Base, dep_plans, req_plans, signed}
use Rattle.gv_lower.specs.AtomGates.{atom_plan}

-- the literal of the first of the flags that is this one, where they are the inputs from place n on: its input, and the opposite
-- where the flag is preferred on; else another
abbrev pub input_or : ℕ → List (List ℕ) → List ℕ → (preferred : Bool) → (other : ℕ) → ℕ
input_or n [] flag preferred other = other
input_or n (f ∷ fs) flag preferred other = if bytes_eq f flag then signed preferred (2 * n) else input_or (n + 1) fs flag preferred other

-- behind k inputs
abbrev pub true_at : ℕ → ℕ
true_at k = 2 * k

abbrev pub false_at : ℕ → ℕ
false_at k = 2 * (k + 1)

abbrev pub first_gates : List Gate
first_gates = record { op = And; operands = [] } ∷ record { op = Or; operands = [] } ∷ []

-- a flag that is no input is on where it is forced
abbrev pub base_of : Parent → (flags : List (List ℕ)) → Base
base_of c flags = record {
  flag = λ flag. input_or 0 flags flag (preferred_on c.pkg flag) (if is_forced (parent_state c flag) then true_at (length flags) else false_at (length flags));
  on = true_at (length flags);
  off = false_at (length flags);
}

abbrev pub required_part : Parent → Base → List Req → ℕ → Part
required_part c base required p = built_on all_of (req_plans (reqs required) base (empty_holds c.pkg.eapi) false) p

abbrev pub class_parts : Parent → Base → List Dep → ℕ → Parts
class_parts c base class p = in_turn (dep_plans (deps class) (atom_plan c base) base (empty_holds c.pkg.eapi) false) p

-- which assignments are allowed: REQUIRED_USE
abbrev pub allowed_gates : Parent → List Req → (flags : List (List ℕ)) → Circuit
allowed_gates c required flags =
    let k = length flags in
    let r = required_part c (base_of c flags) required (k + 2) in
    record { inputs = k; gates = first_gates ++ r.gates; root = r.lit }

-- The two parts of a class query: REQUIRED_USE, then the top items of the class.
pub record ClassParts : Type 0 where
  pub required : Part
  pub class : Parts
  pub behind : ℕ

abbrev pub class_behind : Parent → Base → List Dep → ℕ → Part → ClassParts
class_behind c base class p r = record {
  required = r;
  class = class_parts c base class (p + length r.gates);
  behind = p + length r.gates;
}

abbrev pub failing_parts : Parent → List Req → List Dep → (flags : List (List ℕ)) → ClassParts
failing_parts c required class flags = class_behind c (base_of c flags) class (length flags + 2) (required_part c (base_of c flags) required (length flags + 2))

-- And of the top items at place q, then And of REQUIRED_USE and not that
abbrev pub failing_of : (k q : ℕ) → ClassParts → Circuit
failing_of k q x = record {
  inputs = k;
  gates = first_gates ++ (x.required.gates ++ (x.class.gates ++ record { op = And; operands = x.class.lits } ∷ record { op = And; operands = x.required.lit ∷ (2 * q + 1) ∷ [] } ∷ []));
  root = 2 * (q + 1);
}

-- which assignments are failing for the class
abbrev pub failing_gates : Parent → List Req → List Dep → (flags : List (List ℕ)) → Circuit
failing_gates c required class flags =
    let x = failing_parts c required class flags in failing_of (length flags) (x.behind + length x.class.gates) x

-- the literals of the class's top items
abbrev pub failing_items : Parent → List Req → List Dep → (flags : List (List ℕ)) → List ℕ
failing_items c required class flags = (failing_parts c required class flags).class.lits
