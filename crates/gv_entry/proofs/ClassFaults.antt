-- What the reading of a class says of its error.
use Rattle.std.proofs.Common.{◌≡◌, ℕ, true, List, [], ◌∷◌, ◌++◌, Some, None, refl, sym, ap, ◌∙◌, append-nil}
use Rattle.std.specs.Prelude.{Option, is_none, if◌then◌else◌}
use Rattle.gv_expr.specs.declared.fault.ExprKind.{ExprKind}
use Rattle.gv_expr.specs.Dep.{Dep}
use Rattle.gv_expr.specs.DepRead.{read_dep}
use Rattle.gv_expr.specs.Required.{Req}
use Rattle.gv_expr.specs.RequiredRead.{read_required}
use Rattle.gv_expr.specs.Token.{tokens_of}
use Rattle.gv_expr.specs.TokenFaults.{Language, dependency, required_use, first_fault}
use Rattle.gv_facts.specs.declared.kinds.Class.{Class}
use Rattle.gv_facts.specs.declared.kinds.Class.TheVariants.{Required}
use Rattle.gv_facts.specs.declared.kinds.Eapi.{Eapi}
use Rattle.gv_facts.specs.declared.kinds.Eapi.TheVariants.{Five, Six, Seven, Eight}
use Rattle.gv_facts.specs.Classes.{class_text, has_class}
use Rattle.gv_entry.specs.declared.entry.EntryError.{EntryError}
use Rattle.gv_entry.specs.Details.{class_details, errors_of, language_of, token_detail}
use Rattle.gv_entry.specs.EntryValues.{value_of}

was_none : {A : Type 0} (o : Option (ℕ × ExprKind)) (x e : A) → (if is_none o then Some x else None) ≡ Some e → o ≡ None
was_none None x e h = refl
was_none (Some f) x e h = absurd cc

pub always_required : (eapi : Eapi) → has_class eapi Required ≡ true
always_required Five = refl
always_required Six = refl
always_required Seven = refl
always_required Eight = refl

module _ (eapi : Eapi) (text value : List ℕ) (class : Class) (l : Language) (language : language_of class ≡ l) (is : value ≡ value_of (class_text class) text) (has : has_class eapi class ≡ true) where
  whole : first_fault l (tokens_of value) ≡ None → class_details eapi text class ≡ []
  whole none = rw (has, language, sym is, none) refl

  broken : (token : ℕ) (kind : ExprKind) → first_fault l (tokens_of value) ≡ Some (token, kind) → class_details eapi text class ≡ token_detail class (token, kind) ∷ []
  broken token kind some = rw (has, language, sym is, some) refl

nothing_more : (errors : List EntryError) (details : List (List ℕ)) → details ≡ [] → errors ≡ errors ++ errors_of details
nothing_more errors details none = sym (append-nil errors) ∙ ap (λ ds. errors ++ errors_of ds) (sym none)

module _ (eapi : Eapi) (text value : List ℕ) (errors : List EntryError) where
  pub required_whole : (e : List Req) → value ≡ value_of (class_text Required) text → read_required value ≡ Some e
      → errors ≡ errors ++ errors_of (class_details eapi text Required)
  required_whole e is read =
      nothing_more errors (class_details eapi text Required) (whole eapi text value Required required_use refl is (always_required eapi) (was_none (first_fault required_use (tokens_of value)) _ e read))

  pub required_broken : (new : List EntryError) (token : ℕ) (kind : ExprKind) → value ≡ value_of (class_text Required) text → first_fault required_use (tokens_of value) ≡ Some (token, kind)
      → new ≡ errors ++ errors_of (token_detail Required (token, kind) ∷ []) → new ≡ errors ++ errors_of (class_details eapi text Required)
  required_broken new token kind is fault noted =
      noted ∙ ap (λ ds. errors ++ errors_of ds) (sym (broken eapi text value Required required_use refl is (always_required eapi) token kind fault))

  pub dep_whole : (class : Class) (e : List Dep) → language_of class ≡ dependency → has_class eapi class ≡ true → value ≡ value_of (class_text class) text → read_dep value ≡ Some e
      → errors ≡ errors ++ errors_of (class_details eapi text class)
  dep_whole class e language has is read =
      nothing_more errors (class_details eapi text class) (whole eapi text value class dependency language is has (was_none (first_fault dependency (tokens_of value)) _ e read))
