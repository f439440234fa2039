-- What makes the gates of queries right.
use Rattle.std.specs.Prelude.{◌≡◌, ◌↔◌, ℕ, ◌+◌, Bool, true, List, length, map}
use Rattle.gv_expr.specs.Dep.{Dep}
use Rattle.gv_expr.specs.Required.{Req}
use Rattle.gv_entry.specs.Allowed.{Allowed, Failing, Parent, bits_of, item_holds}
use Rattle.gv_logic.specs.Circuits.{Circuit, at, operand_count, value, values}
use Rattle.gv_logic.specs.Literals.{lit_true}
use Rattle.gv_entry.specs.Queries.{class_flags, required_flags}
use Rattle.gv_lower.specs.QueryGates.{allowed_gates, failing_gates, failing_items}

-- An assignment is allowed exactly where the gates are true at the bits that say which of the query's flags haven't their
-- preferred value under it.
pub record IsRightAllowed (c : Parent) (required : List Req) (on : List ℕ → Bool) : Type 0 where
  pub allowed : (value (allowed_gates c required (required_flags c required)) (bits_of c.pkg (required_flags c required) on) ≡ true) ↔ Allowed c required on

-- It is failing exactly where the gates are true there, and each top item holds exactly where its literal is true.
pub record IsRightFailing (c : Parent) (required : List Req) (class : List Dep) (on : List ℕ → Bool) : Type 0 where
  pub failing : (value (failing_gates c required class (class_flags c required class)) (bits_of c.pkg (class_flags c required class) on) ≡ true) ↔ Failing c required class on
  pub items : map (lit_true (at (values (failing_gates c required class (class_flags c required class)) (bits_of c.pkg (class_flags c required class) on))))
      (failing_items c required class (class_flags c required class)) ≡ map (item_holds c on) class

-- places besides the inputs, and operands
abbrev pub size : Circuit → ℕ
size g = length g.gates + operand_count g.gates
