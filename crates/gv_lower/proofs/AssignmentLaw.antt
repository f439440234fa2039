-- The gates of a query at the bits of any assignment that fits the flags' states.
use Rattle.std.proofs.Common.{◌≡◌, ◌↔◌, ℕ, Bool, true, List, length, sym, ◌∙◌}
use Rattle.std.proofs.lemmas.List.{length-map}
use Rattle.gv_expr.specs.Dep.{Dep}
use Rattle.gv_expr.specs.Required.{Req}
use Rattle.gv_facts.specs.Preferred.{preferred_on}
use Rattle.gv_entry.specs.Allowed.{IsFit, Parent, bits_of, turned}
use Rattle.gv_entry.specs.Laws.{AllowedLaw, FailingLaw}
use Rattle.gv_entry.specs.Queries.{class_flags, required_flags}
use Rattle.gv_lower.specs.Laws.{IsRightAllowed, IsRightFailing}
use Rattle.gv_lower.proofs.QueryLaw.{allowed_value, failing_value, items_value}

-- what is shown of a test's value
carried : {P : Type 0} (value test : Bool) → value ≡ test → (test ≡ true) ↔ P → (value ≡ true) ↔ P
carried value test is law = (λ h. law.0 (sym is ∙ h), λ p. is ∙ law.1 p)

module _ (c : Parent) (required : List Req) (on : List ℕ → Bool) (fit : IsFit c on) where
  long : (flags : List (List ℕ)) → length (bits_of c.pkg flags on) ≡ length flags
  long flags = length-map flags (λ flag. turned (preferred_on c.pkg flag) (on flag))

  pub right_allowed : AllowedLaw → IsRightAllowed c required on
  right_allowed law = record {
    allowed = carried _ _ (allowed_value c (required_flags c required) required (bits_of c.pkg (required_flags c required) on) (long (required_flags c required))) (law.of_required c required on fit);
  }

  pub right_failing : FailingLaw → (class : List Dep) → IsRightFailing c required class on
  right_failing law class = record {
    failing = carried _ _ (failing_value c (class_flags c required class) required class (bits_of c.pkg (class_flags c required class) on) (long (class_flags c required class))) (law.of_class c required class on fit);
    items = items_value c (class_flags c required class) required class (bits_of c.pkg (class_flags c required class) on) (long (class_flags c required class)) ∙ sym (law.items c required class on fit);
  }
