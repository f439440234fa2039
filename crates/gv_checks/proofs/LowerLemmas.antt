-- A query's gates, lowered among the candidates.
use Rattle.std.proofs.Common.{◌≡◌, ◌<◌, Bool, true, ◌&&◌, List, [], length, refl, sym, ap, subst, ◌∙◌, Option, Some, None}
use Rattle.std.specs.Prelude.{IsSome, slice_get, unwrap_or, Result}
use Rattle.std.specs.Borrow.{Bor}
use Rattle.std.proofs.lemmas.Bool.{false≢true, and_parts}
use Rattle.std.proofs.lemmas.Option.{slice_get_within}
use Rattle.gv_entry.specs.Allowed.{Parent}
use Rattle.gv_entry.specs.Queries.{class_in}
use Rattle.gv_expr.specs.Dep.{Dep}
use Rattle.gv_expr.specs.Required.{Req}
use Rattle.gv_facts.specs.Classes.{has_class}
use Rattle.gv_facts.specs.declared.kinds.Class.{Class}
use Rattle.gv_facts.specs.declared.kinds.Class.TheVariants.{Required}
use Rattle.gv_facts.specs.declared.pkg.Pkg.{Pkg}
use Rattle.gv_lower.specs.Around.{parent_of}
use Rattle.gv_lower.specs.Lowering.{IsQuery, Lowered, LoweredAllowed, LoweredFailing}
use Rattle.gv_lower.specs.declared.query.LowerFault.{LowerFault}
use Rattle.gv_lower.specs.declared.query.Query.{Query}
use Rattle.gv_visible.specs.Candidates.{Candidates, pkgs_of}
use Rattle.gv_checks.specs.Asked.{asked_flags, asked_gates, asked_items, asked_preferred, asked_weight}
use Rattle.gv_plain.specs.Classes.{is_whole}
use Rattle.gv_checks.specs.Around.{AreAround}
use Rattle.gv_plain.specs.Context.{case_of}
use Rattle.gv_checks.specs.Queries.{flags_of, gates_of, has_query, items_of, preferred_of, query_of, required_of, weight_of}
use Rattle.gv_plain.specs.declared.context.JudgedPkg.{JudgedPkg}

abbrev AskedLowered : Parent → List Req → Option (List Dep) → Result Query LowerFault → Type 0
AskedLowered c required class r = Lowered (asked_flags c required class) (asked_weight c required class) (IsQuery (asked_gates c required class) (asked_flags c required class) (asked_items c required class) (asked_preferred c required class)) r

pub the_some : {X : Type 0} (o : Option X) → IsSome o → (x : X) × (o ≡ Some x)
the_some None h = absurd (false≢true h)
the_some (Some x) h = (x, refl)

pub whole : (j : JudgedPkg) (class : Class) → has_query (case_of j) class ≡ true → IsSome j.body.now.required
whole j class has =
    let both = and_parts (has_class j.pkg.now.eapi class) (is_whole j.body.now Required && is_whole j.body.now class) has in
    (and_parts (is_whole j.body.now Required) (is_whole j.body.now class) both.1).0

module _ {F : Type 0} (pre : Bor Pkg → Type 0) (post : Bor Pkg → Bool → Type 0) (candidates : Candidates F) (j : JudgedPkg) (around : AreAround pre post candidates j) where
  pub within : j.number < length (pkgs_of candidates)
  within = subst (λ l. j.number < length l) (sym around.pkgs_are) (slice_get_within j.pkgs.now j.number j.pkg.now around.numbered)

  pub numbered : slice_get (pkgs_of candidates) j.number ≡ Some j.pkg.now
  numbered = ap (λ l. slice_get l j.number) around.pkgs_are ∙ around.numbered

  pub parent_same : parent_of candidates j.pkg.now ≡ (case_of j).parent
  parent_same = rw (around.pkgs_are, around.profile_is, around.level_is) refl

  module _ (class : Class) (has : has_query (case_of j) class ≡ true) (r : Result Query LowerFault) where
    required : (x : List Req) × (j.body.now.required ≡ Some x)
    required = the_some j.body.now.required (whole j class has)

    asked_lowered : (dep : Option (List Dep)) → class_in j.body.now class ≡ dep → AskedLowered (parent_of candidates j.pkg.now) required.0 dep r
        → let q = query_of (case_of j) class in Lowered (flags_of q) (weight_of q) (IsQuery (gates_of q) (flags_of q) (items_of q) (preferred_of q)) r
    asked_lowered dep e lowered =
        subst (λ d. AskedLowered (case_of j).parent (required_of (query_of (case_of j) class)) d r) (sym e)
        (subst (λ x. AskedLowered (case_of j).parent x dep r) (sym (ap (λ o. unwrap_or o []) required.1))
        (subst (λ c. AskedLowered c required.0 dep r) parent_same lowered))

    pub allowed_lowered : class_in j.body.now class ≡ None
        → ((pkg : Pkg) (x : List Req) → slice_get (pkgs_of candidates) j.number ≡ Some pkg → j.body.now.required ≡ Some x → LoweredAllowed (parent_of candidates pkg) x r)
        → let q = query_of (case_of j) class in Lowered (flags_of q) (weight_of q) (IsQuery (gates_of q) (flags_of q) (items_of q) (preferred_of q)) r
    allowed_lowered none lowered = asked_lowered None none (lowered j.pkg.now required.0 numbered required.1)

    pub failing_lowered : (items : List Dep) → class_in j.body.now class ≡ Some items
        → ((pkg : Pkg) (x : List Req) (d : List Dep) → slice_get (pkgs_of candidates) j.number ≡ Some pkg → j.body.now.required ≡ Some x → class_in j.body.now class ≡ Some d → LoweredFailing (parent_of candidates pkg) x d r)
        → let q = query_of (case_of j) class in Lowered (flags_of q) (weight_of q) (IsQuery (gates_of q) (flags_of q) (items_of q) (preferred_of q)) r
    failing_lowered items some lowered = asked_lowered (Some items) some (lowered j.pkg.now required.0 items numbered required.1 some)
