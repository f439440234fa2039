-- The first top item that doesn't hold is the first whose literal is false.
use Rattle.std.proofs.Common.{◌≡◌, ℕ, ◌+◌, Bool, true, false, if◌then◌else◌, List, [], ◌∷◌, ◌++◌, length, map, refl, sym, ap, subst, ◌∙◌, Option, Some, None, append_assoc, length-append}
use Rattle.std.specs.Prelude.{option_map, unwrap_or, slice_get}
use Rattle.std.specs.Option.{MatchOption}
use Rattle.gv_expr.specs.Dep.{Dep}
use Rattle.gv_expr.specs.DepGrammar.{item_text}
use Rattle.gv_expr.specs.Required.{Req}
use Rattle.gv_entry.specs.Allowed.{Parent, assignment, first_failing, item_holds}
use Rattle.gv_entry.specs.Queries.{class_flags}
use Rattle.gv_logic.specs.Circuits.{Circuit, at, values}
use Rattle.gv_logic.specs.Literals.{lit_true}
use Rattle.gv_lower.specs.QueryGates.{failing_gates, failing_items}
use Rattle.gv_checks.specs.Asked.{IsLeastAsked, NoneAsked, asked_flags, asked_gates, asked_items, least_asked}
use Rattle.gv_checks.specs.Queries.{Query, class_of, flags_of, gates_of, items_of, least_of, required_of}
use Rattle.gv_checks.specs.RepoReports.{failing_text}
use Rattle.gv_checks.specs.Unmet.{FoundUnmet, first_off, first_off_from, item_at}

stands_behind : (front : List Dep) (t : Dep) (ts : List Dep) → slice_get (front ++ t ∷ ts) (length front) ≡ Some t
stands_behind [] t ts = refl
stands_behind (f ∷ fs) t ts = stands_behind fs t ts

module _ (c : Parent) (on : List ℕ → Bool) where
  abbrev Rest : Dep → (ts front : List Dep) → Type 0
  Rest t ts front = first_failing c ts on ≡ item_at ((front ++ t ∷ []) ++ ts) (first_off_from (length (front ++ t ∷ [])) (map (item_holds c on) ts))

  unmet_behind : (class front : List Dep) → first_failing c class on ≡ item_at (front ++ class) (first_off_from (length front) (map (item_holds c on) class))
  unmet_behind [] front = refl
  unmet_behind (t ∷ ts) front = by (item_holds c on t) refl (unmet_behind ts (front ++ t ∷ []))
    where
      next : Rest t ts front → first_failing c ts on ≡ item_at (front ++ t ∷ ts) (first_off_from (length front + 1) (map (item_holds c on) ts))
      next rest =
          let e : length (front ++ t ∷ []) ≡ length front + 1 = length-append front (t ∷ []) in
          rest ∙ (ap (λ xs. item_at xs (first_off_from (length (front ++ t ∷ [])) (map (item_holds c on) ts))) (append_assoc front (t ∷ []) ts)
          ∙ ap (λ n. item_at (front ++ t ∷ ts) (first_off_from n (map (item_holds c on) ts))) e)

      by : (b : Bool) → item_holds c on t ≡ b → Rest t ts front → (if item_holds c on t then first_failing c ts on else Some t) ≡ item_at (front ++ t ∷ ts) (first_off_from (length front) (item_holds c on t ∷ map (item_holds c on) ts))
      by true e rest = rw e (next rest)
      by false e rest = rw e (sym (stands_behind front t ts))

  first_unmet : (class : List Dep) → first_failing c class on ≡ item_at class (first_off (map (item_holds c on) class))
  first_unmet class = unmet_behind class []

-- the law of the layer below
abbrev pub ItemsLaw : Type 0
ItemsLaw = (c : Parent) (flags : List (List ℕ)) (required : List Req) (class : List Dep) (bits : List Bool) → length bits ≡ length flags
    → map (lit_true (at (values (failing_gates c required class flags) bits))) (failing_items c required class flags) ≡ map (item_holds c (assignment c flags bits)) class

-- by the literals of a class query
unmet_of : ItemsLaw → (c : Parent) (required : List Req) (dep : List Dep) (bits : List Bool) (class : Option (List Dep)) → class ≡ Some dep → length bits ≡ length (asked_flags c required class)
    → first_failing c dep (assignment c (asked_flags c required class) bits)
    ≡ item_at dep (first_off (map (lit_true (at (values (asked_gates c required class) bits))) (asked_items c required class)))
unmet_of items_value c required dep bits class k =
    subst (λ class. length bits ≡ length (asked_flags c required class) → first_failing c dep (assignment c (asked_flags c required class) bits)
    ≡ item_at dep (first_off (map (lit_true (at (values (asked_gates c required class) bits))) (asked_items c required class)))) (sym k)
    (λ long. first_unmet c (assignment c (class_flags c required dep) bits) dep
    ∙ ap (λ bs. item_at dep (first_off bs)) (sym (items_value c (class_flags c required dep) required dep bits long)))

pub failing_is : ItemsLaw → (q : Query) (dep : List Dep) (bits : List Bool) (gates : Circuit) (items : List ℕ) (places : List Bool) (text : List ℕ) → class_of q ≡ Some dep → gates ≡ gates_of q → items ≡ items_of q
    → length bits ≡ length (flags_of q) → places ≡ values gates bits → FoundUnmet dep (first_off (map (lit_true (at places)) items)) text → text ≡ failing_text q dep bits
failing_is law q dep bits gates items places text class gates_are items_are long places_are found =
    found ∙ ap (λ (item : Option Dep). unwrap_or (option_map item_text item) [])
    (ap (λ (vals : List Bool). item_at dep (first_off (map (lit_true (at vals)) items))) (places_are ∙ ap (λ g. values g bits) gates_are)
    ∙ (ap (λ lits. item_at dep (first_off (map (lit_true (at (values (gates_of q) bits))) lits))) items_are
    ∙ sym (unmet_of law q.case.parent (required_of q) dep bits (class_of q) class long)))

inputs_of : (c : Parent) (required : List Req) (class : Option (List Dep)) → (asked_gates c required class).inputs ≡ length (asked_flags c required class)
inputs_of c required None = refl
inputs_of c required (Some class) = refl

-- as many bits as inputs
pub fits_gates : (q : Query) (bits : List Bool) (gates : Circuit) → gates ≡ gates_of q → length bits ≡ length (flags_of q) → length bits ≡ gates.inputs
fits_gates q bits gates are long = long ∙ (sym (inputs_of q.case.parent (required_of q) (class_of q)) ∙ ap (λ (g : Circuit). g.inputs) (sym are))

-- the least bits are as many as the flags
sized : (c : Parent) (required : List Req) (class : Option (List Dep)) (bits : List Bool) → IsLeastAsked c required class bits → length bits ≡ length (asked_flags c required class)
sized c required None bits is = is.size
sized c required (Some class) bits is = is.size

pub fits_flags : (q : Query) (bits : List Bool)
    → ((c : Parent) (required : List Req) (class : Option (List Dep)) → MatchOption (least_asked c required class) (NoneAsked c required class) (IsLeastAsked c required class))
    → Some bits ≡ least_of q → length bits ≡ length (flags_of q)
fits_flags q bits law is = by (least_of q) is (law q.case.parent (required_of q) (class_of q))
  where
    by : (found : Option (List Bool)) → Some bits ≡ found → MatchOption found (NoneAsked q.case.parent (required_of q) (class_of q)) (IsLeastAsked q.case.parent (required_of q) (class_of q))
        → length bits ≡ length (flags_of q)
    by found e = subst (λ found. MatchOption found (NoneAsked q.case.parent (required_of q) (class_of q)) (IsLeastAsked q.case.parent (required_of q) (class_of q)) → length bits ≡ length (flags_of q)) e
        (λ is. sized q.case.parent (required_of q) (class_of q) bits is)
