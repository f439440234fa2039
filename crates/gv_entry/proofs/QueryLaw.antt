-- What the test of a query's bits says of all assignments.
use Rattle.std.proofs.Common.{◌≡◌, ◌≢◌, ◌↔◌, ℕ, Bool, true, false, cond, ◌||◌, not, if◌then◌else◌, List, [], ◌∷◌, ◌++◌, length, map, filter, refl, sym, subst, ap, ◌∙◌, Option, Some, None, inl, inr, arith}
use Rattle.std.proofs.lemmas.Bool.{false≢true, and_from, and_parts}
use Rattle.std.proofs.lemmas.Cmp.{nat_list_eq_equiv}
use Rattle.std.proofs.lemmas.List.{length-map}
use Rattle.std.proofs.lemmas.List.Kept.{IsStrictlySortedBy-filter}
use Rattle.std.proofs.lemmas.Map.Text.{is_eq-slice_cmp}
use Rattle.std.specs.Cmp.Lexicographic.{same_text}
use Rattle.std.specs.List.{AllByRecursion, list_all}
use Rattle.std.specs.List.Sorted.{IsStrictlySortedBy}
use Rattle.std.specs.Option.{MatchOption}
use Rattle.std.specs.Ordering.{is_eq}
use Rattle.std.specs.Str.{bytes_eq}
use Rattle.std.specs.declared.cmp.Ordering.TheVariants.{Less}
use Rattle.gv_base.specs.Laws.{InOrderLaw}
use Rattle.gv_base.specs.Least.{HasNone, IsLeast, Lesser}
use Rattle.gv_base.specs.Order.{IsAscending, byte_cmp, has_text, in_order}
use Rattle.gv_expr.specs.Dep.{Dep, deps}
use Rattle.gv_expr.specs.Mentions.{dep_mentions, req_mentions}
use Rattle.gv_expr.specs.Required.{Req, reqs}
use Rattle.gv_facts.specs.Preferred.{preferred, preferred_on}
use Rattle.gv_facts.specs.declared.kinds.FlagState.{FlagState}
use Rattle.gv_facts.specs.declared.kinds.FlagState.TheVariants.{Absent, Off, On, Free}
use Rattle.gv_facts.specs.declared.pkg.Pkg.{Pkg}
use Rattle.gv_entry.specs.Allowed.{Allowed, Failing, IsFit, Parent, agrees, assignment, bits_of, class_holds, is_allowed, is_failing, is_forced, is_free, item_holds, parent_state, query_flags, required_holds, turned, value_or, values_by}
use Rattle.gv_entry.specs.Holds.{empty_holds}
use Rattle.gv_entry.specs.Laws.{Agree, AllowedLaw, BitsLaw, FailingLaw, LeastAllowedLaw, LeastFailingLaw, LeastLaw}
use Rattle.gv_entry.specs.Least.{least}
use Rattle.gv_entry.specs.LeastAssignments.{IsLeastAllowed, IsLeastFailing, IsLesser, NoneAllowed, NoneFailing}
use Rattle.gv_entry.specs.Queries.{class_flags, required_flags}
use Rattle.gv_entry.proofs.Alike.{agree_behind, agree_front, depends_on_mentions, or_here}

-- A value that is turned twice is the value.
turned_back : (preferred value : Bool) → turned preferred (turned preferred value) ≡ value
turned_back true true = refl
turned_back true false = refl
turned_back false value = refl

-- The assignment of an assignment's bits.
module _ (p : Pkg) (on : List ℕ → Bool) (flag : List ℕ) where
  at_flags : (fs : List (List ℕ)) (other : Bool) → has_text fs flag ≡ true → value_or fs (bits_of p fs on) flag (preferred_on p flag) other ≡ on flag
  at_flags [] other h = absurd (false≢true h)
  at_flags (f ∷ fs) other h = by (bytes_eq f flag) refl (at_flags fs other)
    where
      by : (b : Bool) → bytes_eq f flag ≡ b → (has_text fs flag ≡ true → value_or fs (bits_of p fs on) flag (preferred_on p flag) other ≡ on flag)
          → (if b then turned (preferred_on p flag) (turned (preferred_on p f) (on f)) else value_or fs (bits_of p fs on) flag (preferred_on p flag) other) ≡ on flag
      by true e later = ap (λ g. turned (preferred_on p flag) (turned (preferred_on p g) (on g))) (same_text f flag (sym e)) ∙ turned_back (preferred_on p flag) (on flag)
      by false e later = later (ap (λ b. b || has_text fs flag) (sym (nat_list_eq_equiv.symm flag f ∙ e)) ∙ h)

not_among : (fs : List (List ℕ)) (bits : List Bool) (flag : List ℕ) (preferred other : Bool) → has_text fs flag ≡ false → value_or fs bits flag preferred other ≡ other
not_among [] bits flag preferred other h = refl
not_among (f ∷ fs) [] flag preferred other h = refl
not_among (f ∷ fs) (b ∷ bs) flag preferred other h = by (bytes_eq f flag) refl (not_among fs bs flag preferred other)
  where
    by : (same : Bool) → bytes_eq f flag ≡ same → (has_text fs flag ≡ false → value_or fs bs flag preferred other ≡ other) → (if same then turned preferred b else value_or fs bs flag preferred other) ≡ other
    by true e later = absurd (false≢true (sym h ∙ or_here (bytes_eq flag f) (has_text fs flag) (nat_list_eq_equiv.symm flag f ∙ e)))
    by false e later = later (ap (λ b. b || has_text fs flag) (sym (nat_list_eq_equiv.symm flag f ∙ e)) ∙ h)

-- A filter on flags.
module _ (p : List ℕ → Bool) (flag : List ℕ) where
  filtered_out : (fs : List (List ℕ)) → p flag ≡ false → has_text (filter p fs) flag ≡ false
  filtered_out [] h = refl
  filtered_out (f ∷ fs) h = by (p f) refl (filtered_out fs h)
    where
      by : (b : Bool) → p f ≡ b → has_text (filter p fs) flag ≡ false → has_text (cond b (f ∷ filter p fs) (filter p fs)) flag ≡ false
      by true e later = other (bytes_eq flag f) refl
        where
          other : (same : Bool) → bytes_eq flag f ≡ same → (same || has_text (filter p fs) flag) ≡ false
          other true k = absurd (false≢true (sym h ∙ (ap p (same_text flag f (sym k)) ∙ e)))
          other false k = later
      by false e later = later

  filtered_in : (fs : List (List ℕ)) → p flag ≡ true → has_text fs flag ≡ true → has_text (filter p fs) flag ≡ true
  filtered_in [] h k = k
  filtered_in (f ∷ fs) h k = by (p f) refl (filtered_in fs h)
    where
      by : (b : Bool) → p f ≡ b → (has_text fs flag ≡ true → has_text (filter p fs) flag ≡ true) → has_text (cond b (f ∷ filter p fs) (filter p fs)) flag ≡ true
      by true e later = either (bytes_eq flag f) refl
        where
          either : (same : Bool) → bytes_eq flag f ≡ same → (same || has_text (filter p fs) flag) ≡ true
          either true m = refl
          either false m = later (ap (λ b. b || has_text fs flag) (sym m) ∙ k)
      by false e later = later (ap (λ b. b || has_text fs flag) (sym not_it) ∙ k)
        where
          not_it : bytes_eq flag f ≡ false
          not_it = apart (bytes_eq flag f) refl
            where
              apart : (same : Bool) → bytes_eq flag f ≡ same → same ≡ false
              apart true m = absurd (false≢true (sym e ∙ (ap p (sym (same_text flag f (sym m))) ∙ h)))
              apart false m = refl

-- States and bits.
not_true : (b : Bool) → not b ≡ true → b ≡ false
not_true true h = absurd (false≢true h)
not_true false h = refl

forced_unless_free : (s : FlagState) (bit : Bool) → is_free s ≡ false → agrees s bit ≡ true → bit ≡ is_forced s
forced_unless_free Free bit h a = absurd (false≢true (sym h))
forced_unless_free On bit h a = a
forced_unless_free Off bit h a = not_true bit a
forced_unless_free Absent bit h a = not_true bit a

-- The assignment of bits fits the states.
forced_agrees : (s : FlagState) → agrees s (is_forced s) ≡ true
forced_agrees On = refl
forced_agrees Off = refl
forced_agrees Free = refl
forced_agrees Absent = refl

free_agrees : (s : FlagState) (bit : Bool) → is_free s ≡ true → agrees s bit ≡ true
free_agrees Free bit h = refl
free_agrees On bit h = absurd (false≢true h)
free_agrees Off bit h = absurd (false≢true h)
free_agrees Absent bit h = absurd (false≢true h)

module _ (states : List ℕ → FlagState) where
  -- of flags that are all free
  bits_agree : (flags : List (List ℕ)) → list_all (λ f. is_free (states f)) flags ≡ true → (bits : List Bool) (flag : List ℕ) (preferred : Bool)
      → agrees (states flag) (value_or flags bits flag preferred (is_forced (states flag))) ≡ true
  bits_agree [] free bits flag preferred = forced_agrees (states flag)
  bits_agree (f ∷ fs) free [] flag preferred = forced_agrees (states flag)
  bits_agree (f ∷ fs) free (b ∷ bs) flag preferred =
      let parts = and_parts (is_free (states f)) (list_all (λ g. is_free (states g)) fs) free in
      here (bytes_eq f flag) refl parts.0 (bits_agree fs parts.1 bs flag preferred)
    where
      here : (same : Bool) → bytes_eq f flag ≡ same → is_free (states f) ≡ true → agrees (states flag) (value_or fs bs flag preferred (is_forced (states flag))) ≡ true
          → agrees (states flag) (if same then turned preferred b else value_or fs bs flag preferred (is_forced (states flag))) ≡ true
      here true e free_f later = free_agrees (states flag) (turned preferred b) (subst (λ g. is_free (states g) ≡ true) (same_text f flag (sym e)) free_f)
      here false e free_f later = later

  filtered : (flags : List (List ℕ)) → list_all (λ f. is_free (states f)) (filter (λ f. is_free (states f)) flags) ≡ true
  filtered [] = refl
  filtered (f ∷ fs) = keeps (is_free (states f)) refl (filtered fs)
    where
      keeps : (free : Bool) → is_free (states f) ≡ free → list_all (λ g. is_free (states g)) (filter (λ g. is_free (states g)) fs) ≡ true
          → list_all (λ g. is_free (states g)) (cond free (f ∷ filter (λ g. is_free (states g)) fs) (filter (λ g. is_free (states g)) fs)) ≡ true
      keeps true e rest = and_from (is_free (states f)) (list_all (λ g. is_free (states g)) (filter (λ g. is_free (states g)) fs)) e rest
      keeps false e rest = rest

bits_fit : (c : Parent) (mentions : List (List ℕ)) (bits : List Bool) → IsFit c (assignment c (query_flags c mentions) bits)
bits_fit c mentions bits = λ flag. bits_agree (parent_state c) (query_flags c mentions) (filtered (parent_state c) (in_order mentions)) bits flag (preferred_on c.pkg flag)

-- an assignment that fits the states is that of its bits, at the flags that are mentioned
module _ (order : InOrderLaw) (c : Parent) (mentions : List (List ℕ)) (on : List ℕ → Bool) (fit : IsFit c on) where
  of_bits : Agree on (assignment c (query_flags c mentions) (bits_of c.pkg (query_flags c mentions) on)) mentions
  of_bits flag mentioned = by (is_free (parent_state c flag)) refl
    where
      by : (b : Bool) → is_free (parent_state c flag) ≡ b → on flag ≡ assignment c (query_flags c mentions) (bits_of c.pkg (query_flags c mentions) on) flag
      by true e = sym (at_flags c.pkg on flag (query_flags c mentions) (is_forced (parent_state c flag)) (filtered_in (λ f. is_free (parent_state c f)) flag (in_order mentions) e (sym (order.members mentions flag) ∙ mentioned)))
      by false e = forced_unless_free (parent_state c flag) (on flag) e (fit flag)
          ∙ sym (not_among (query_flags c mentions) (bits_of c.pkg (query_flags c mentions) on) flag (preferred_on c.pkg flag) (is_forced (parent_state c flag)) (filtered_out (λ f. is_free (parent_state c f)) flag (in_order mentions) e))

-- the values of the flags of a query under the assignment of bits
module _ (p : Pkg) (other : List ℕ → Bool) where
  abbrev value_in : List (List ℕ) → List Bool → List ℕ → Bool
  value_in flags bits flag = value_or flags bits flag (preferred_on p flag) (other flag)

  past : (f : List ℕ) (b : Bool) (fs : List (List ℕ)) (bs : List Bool) (gs : List (List ℕ)) → AllByRecursion (λ g. byte_cmp f g ≡ Less) gs
      → map (value_in (f ∷ fs) (b ∷ bs)) gs ≡ map (value_in fs bs) gs
  past f b fs bs [] all = refl
  past f b fs bs (g ∷ gs) all =
      ap (λ same. (if same then turned (preferred_on p g) b else value_in fs bs g) ∷ map (value_in (f ∷ fs) (b ∷ bs)) gs) (sym (is_eq-slice_cmp f g) ∙ ap is_eq all.0)
      ∙ ap (λ vs. value_in fs bs g ∷ vs) (past f b fs bs gs all.1)

  values_at : (flags : List (List ℕ)) → IsAscending flags → (bits : List Bool) → length bits ≡ length flags → map (value_in flags bits) flags ≡ values_by (preferred p flags) bits
  unfolding IsStrictlySortedBy
  values_at [] up bits long = refl
  values_at (f ∷ fs) up [] long = absurd (omega (arith, long))
  values_at (f ∷ fs) up (b ∷ bs) long =
      ap (λ same. (if same then turned (preferred_on p f) b else value_in fs bs f) ∷ map (value_in (f ∷ fs) (b ∷ bs)) fs) (nat_list_eq_equiv.refl f)
      ∙ ap (λ vs. turned (preferred_on p f) b ∷ vs) (past f b fs bs fs up.0 ∙ values_at fs up.1 bs (omega (arith, long)))

bits_values : InOrderLaw → (c : Parent) (mentions : List (List ℕ)) (bits : List Bool) → length bits ≡ length (query_flags c mentions)
    → map (assignment c (query_flags c mentions) bits) (query_flags c mentions) ≡ values_by (preferred c.pkg (query_flags c mentions)) bits
bits_values order c mentions =
    values_at c.pkg (λ flag. is_forced (parent_state c flag)) (query_flags c mentions)
    (IsStrictlySortedBy-filter byte_cmp (λ flag. is_free (parent_state c flag)) (in_order mentions) (order.ascends mentions))

pub bits_are : InOrderLaw → BitsLaw
bits_are order = record { fit = bits_fit; agree = of_bits order; values = bits_values order }

-- bits that pass, and their assignment
module _ (c : Parent) (required : List Req) (mentions : List (List ℕ)) (bits : List Bool) where
  pub allowed_at : is_allowed c required (query_flags c mentions) bits ≡ true → Allowed c required (assignment c (query_flags c mentions) bits)
  allowed_at h = record { agreeing = bits_fit c mentions bits; required_use = h }

  module _ (class : List Dep) where
    failing_at : is_failing c required class (query_flags c mentions) bits ≡ true → Failing c required class (assignment c (query_flags c mentions) bits)
    failing_at h =
        let both = and_parts (required_holds c required (assignment c (query_flags c mentions) bits)) (not (class_holds c class (assignment c (query_flags c mentions) bits))) h in
        record { allowed = allowed_at both.0; fails = not_true (class_holds c class (assignment c (query_flags c mentions) bits)) both.1 }

    failing_from : Failing c required class (assignment c (query_flags c mentions) bits) → is_failing c required class (query_flags c mentions) bits ≡ true
    failing_from h = and_from (required_holds c required (assignment c (query_flags c mentions) bits)) (not (class_holds c class (assignment c (query_flags c mentions) bits))) h.allowed.required_use (ap not h.fails)

-- an assignment that fits the states, and its bits of a query's flags
module _ (order : InOrderLaw) (c : Parent) (required : List Req) (on : List ℕ → Bool) (fit : IsFit c on) where
  -- a test that has the value of what holds, says whether it is allowed
  pub allowed_by : (test : Bool) → required_holds c required on ≡ test → (test ≡ true) ↔ Allowed c required on
  allowed_by test is = (λ h. record { agreeing = fit; required_use = is ∙ h }, λ h. sym is ∙ h.required_use)

  required_same : (others : List (List ℕ)) → required_holds c required on
      ≡ is_allowed c required (query_flags c (req_mentions (reqs required) ++ others)) (bits_of c.pkg (query_flags c (req_mentions (reqs required) ++ others)) on)
  required_same others =
      let bits = assignment c (query_flags c (req_mentions (reqs required) ++ others)) (bits_of c.pkg (query_flags c (req_mentions (reqs required) ++ others)) on) in
      depends_on_mentions.required on bits (empty_holds c.pkg.eapi) (reqs required) (agree_front on bits (req_mentions (reqs required)) others (of_bits order c (req_mentions (reqs required) ++ others) on fit))

  allowed_of_required : (is_allowed c required (required_flags c required) (bits_of c.pkg (required_flags c required) on) ≡ true) ↔ Allowed c required on
  allowed_of_required = allowed_by (is_allowed c required (required_flags c required) (bits_of c.pkg (required_flags c required) on))
      (depends_on_mentions.required on (assignment c (required_flags c required) (bits_of c.pkg (required_flags c required) on)) (empty_holds c.pkg.eapi) (reqs required) (of_bits order c (req_mentions (reqs required)) on fit))

  module _ (class : List Dep) where
    abbrev bits_on : List ℕ → Bool
    bits_on = assignment c (class_flags c required class) (bits_of c.pkg (class_flags c required class) on)

    class_same : class_holds c class on ≡ class_holds c class bits_on
    class_same = depends_on_mentions.class on bits_on c.among c.profile c.level (empty_holds c.pkg.eapi) (deps class)
        (agree_behind on bits_on (req_mentions (reqs required)) (dep_mentions (deps class)) (of_bits order c (req_mentions (reqs required) ++ dep_mentions (deps class)) on fit))

    items_of_class : map (item_holds c on) class ≡ map (item_holds c bits_on) class
    items_of_class = depends_on_mentions.items c class on bits_on
        (agree_behind on bits_on (req_mentions (reqs required)) (dep_mentions (deps class)) (of_bits order c (req_mentions (reqs required) ++ dep_mentions (deps class)) on fit))

    allowed_of_class : (is_allowed c required (class_flags c required class) (bits_of c.pkg (class_flags c required class) on) ≡ true) ↔ Allowed c required on
    allowed_of_class = allowed_by (is_allowed c required (class_flags c required class) (bits_of c.pkg (class_flags c required class) on)) (required_same (dep_mentions (deps class)))

    -- what fails among all assignments fails among the bits, and the other way round
    failing_of_class : (is_failing c required class (class_flags c required class) (bits_of c.pkg (class_flags c required class) on) ≡ true) ↔ Failing c required class on
    failing_of_class = (there, back)
      where
        there : is_failing c required class (class_flags c required class) (bits_of c.pkg (class_flags c required class) on) ≡ true → Failing c required class on
        there h =
            let both = and_parts (required_holds c required bits_on) (not (class_holds c class bits_on)) h in
            record {
              allowed = record { agreeing = fit; required_use = required_same (dep_mentions (deps class)) ∙ both.0 };
              fails = class_same ∙ not_true (class_holds c class bits_on) both.1;
            }

        back : Failing c required class on → is_failing c required class (class_flags c required class) (bits_of c.pkg (class_flags c required class) on) ≡ true
        back h = and_from (required_holds c required bits_on) (not (class_holds c class bits_on)) (sym (required_same (dep_mentions (deps class))) ∙ h.allowed.required_use) (ap not (sym class_same ∙ h.fails))

pub allowed_is : InOrderLaw → AllowedLaw
allowed_is order = record {
  bits = λ c required mentions bits. (allowed_at c required mentions bits, λ h. h.required_use);
  of_required = λ c required on fit. allowed_of_required order c required on fit;
  of_class = λ c required class on fit. allowed_of_class order c required on fit class;
}

pub failing_is : InOrderLaw → FailingLaw
failing_is order = record {
  bits = λ c required class mentions bits. (failing_at c required mentions bits class, failing_from c required mentions bits class);
  of_class = λ c required class on fit. failing_of_class order c required on fit class;
  items = λ c required class on fit. items_of_class order c required on fit class;
}

-- Of lesser bits the assignment is lesser.
is_preferred : (p b : Bool) → b ≡ false → turned p b ≡ p
is_preferred true b e = ap not e
is_preferred false b e = e

isnt_preferred : (p v : Bool) → turned p v ≡ true → v ≡ not p
isnt_preferred true v e = not_true v e
isnt_preferred false v e = e

module _ (p : Pkg) (on : List ℕ → Bool) where
  values_back : (flags : List (List ℕ)) → values_by (preferred p flags) (bits_of p flags on) ≡ map on flags
  values_back [] = refl
  values_back (f ∷ fs) = ap (λ v. v ∷ values_by (preferred p fs) (bits_of p fs on)) (turned_back (preferred_on p f) (on f)) ∙ ap (λ vs. on f ∷ vs) (values_back fs)

  lesser_values : (one : List ℕ → Bool) (flags : List (List ℕ)) (bits : List Bool) → map one flags ≡ values_by (preferred p flags) bits → Lesser bits (bits_of p flags on) → IsLesser p flags one on
  lesser_values one [] [] e h = h
  lesser_values one [] (b ∷ bs) e h = h
  lesser_values one (f ∷ fs) [] e h = absurd h
  lesser_values one (f ∷ fs) (b ∷ bs) e (inl h) = inl (first e ∙ is_preferred (preferred_on p f) b h.0, isnt_preferred (preferred_on p f) (on f) h.1)
    where
      first : {x y : Bool} {xs ys : List Bool} → x ∷ xs ≡ y ∷ ys → x ≡ y
      first e = cc
  lesser_values one (f ∷ fs) (b ∷ bs) e (inr h) =
      inr (first e ∙ (ap (turned (preferred_on p f)) h.0 ∙ turned_back (preferred_on p f) (on f)), lesser_values one fs bs (rest e) h.1)
    where
      first : {x y : Bool} {xs ys : List Bool} → x ∷ xs ≡ y ∷ ys → x ≡ y
      first e = cc

      rest : {x y : Bool} {xs ys : List Bool} → x ∷ xs ≡ y ∷ ys → xs ≡ ys
      rest e = cc

-- The least bits that pass a test on the flags of a query, where it says what holds of assignments.
module _ (c : Parent) (flags : List (List ℕ)) (test : List Bool → Bool) (Holds : (List ℕ → Bool) → Type 0)
    (values : (bits : List Bool) → length bits ≡ length flags → map (assignment c flags bits) flags ≡ values_by (preferred c.pkg flags) bits)
    (there : (bits : List Bool) → test bits ≡ true → Holds (assignment c flags bits)) (back : (on : List ℕ → Bool) → Holds on → test (bits_of c.pkg flags on) ≡ true) where
  bits_long : (on : List ℕ → Bool) → length (bits_of c.pkg flags on) ≡ length flags
  bits_long on = length-map flags (λ flag. turned (preferred_on c.pkg flag) (on flag))

  none_passes : HasNone test (length flags) ↔ ((on : List ℕ → Bool) → Holds on → ⊥)
  none_passes = (λ none on holds. none (bits_of c.pkg flags on) (bits_long on) (back on holds), λ none bits size passes. none (assignment c flags bits) (there bits passes))

  least_passes : (bits : List Bool) → IsLeast test (length flags) bits → (on : List ℕ → Bool) → Holds on → map on flags ≢ map (assignment c flags bits) flags
      → IsLesser c.pkg flags (assignment c flags bits) on
  least_passes bits is on holds differs =
      lesser_values c.pkg on (assignment c flags bits) flags bits (values bits is.size)
      (is.lesser (bits_of c.pkg flags on) (bits_long on) (back on holds)
      (λ e. differs (sym (values_back c.pkg on flags) ∙ (ap (values_by (preferred c.pkg flags)) e ∙ sym (values bits is.size)))))

matched : {P Q : Type 0} {R S : List Bool → Type 0} (found : Option (List Bool)) → (P → Q) → ((bits : List Bool) → R bits → S bits) → MatchOption found P R → MatchOption found Q S
matched None none some h = none h
matched (Some bits) none some h = some bits h

pub least_allowed_is : BitsLaw → AllowedLaw → LeastLaw → (c : Parent) (required : List Req) → LeastAllowedLaw c required
least_allowed_is bits_law allowed law c required = record { none = none; some = some; found = matched (least test (length flags)) none.0 some (law test (length flags)) }
  where
    flags : List (List ℕ)
    flags = required_flags c required

    test : List Bool → Bool
    test = is_allowed c required (required_flags c required)

    values : (bits : List Bool) → length bits ≡ length (required_flags c required)
        → map (assignment c (required_flags c required) bits) (required_flags c required) ≡ values_by (preferred c.pkg (required_flags c required)) bits
    values = bits_law.values c (req_mentions (reqs required))

    there : (bits : List Bool) → is_allowed c required (required_flags c required) bits ≡ true → Allowed c required (assignment c (required_flags c required) bits)
    there bits = (allowed.bits c required (req_mentions (reqs required)) bits).0

    back : (on : List ℕ → Bool) → Allowed c required on → is_allowed c required (required_flags c required) (bits_of c.pkg (required_flags c required) on) ≡ true
    back on h = (allowed.of_required c required on h.agreeing).1 h

    none : HasNone (is_allowed c required (required_flags c required)) (length (required_flags c required)) ↔ NoneAllowed c required
    none = none_passes c (required_flags c required) (is_allowed c required (required_flags c required)) (Allowed c required) values there back

    some : (bits : List Bool) → IsLeast (is_allowed c required (required_flags c required)) (length (required_flags c required)) bits → IsLeastAllowed c required bits
    some bits is = record {
      size = is.size;
      allowed = there bits is.has;
      lesser = least_passes c (required_flags c required) (is_allowed c required (required_flags c required)) (Allowed c required) values there back bits is;
    }

pub least_failing_is : BitsLaw → FailingLaw → LeastLaw → (c : Parent) (required : List Req) (class : List Dep) → LeastFailingLaw c required class
least_failing_is bits_law failing law c required class = record { none = none; some = some; found = matched (least test (length flags)) none.0 some (law test (length flags)) }
  where
    flags : List (List ℕ)
    flags = class_flags c required class

    test : List Bool → Bool
    test = is_failing c required class (class_flags c required class)

    values : (bits : List Bool) → length bits ≡ length (class_flags c required class)
        → map (assignment c (class_flags c required class) bits) (class_flags c required class) ≡ values_by (preferred c.pkg (class_flags c required class)) bits
    values = bits_law.values c (req_mentions (reqs required) ++ dep_mentions (deps class))

    there : (bits : List Bool) → is_failing c required class (class_flags c required class) bits ≡ true → Failing c required class (assignment c (class_flags c required class) bits)
    there bits = (failing.bits c required class (req_mentions (reqs required) ++ dep_mentions (deps class)) bits).0

    back : (on : List ℕ → Bool) → Failing c required class on → is_failing c required class (class_flags c required class) (bits_of c.pkg (class_flags c required class) on) ≡ true
    back on h = (failing.of_class c required class on h.allowed.agreeing).1 h

    none : HasNone (is_failing c required class (class_flags c required class)) (length (class_flags c required class)) ↔ NoneFailing c required class
    none = none_passes c (class_flags c required class) (is_failing c required class (class_flags c required class)) (Failing c required class) values there back

    some : (bits : List Bool) → IsLeast (is_failing c required class (class_flags c required class)) (length (class_flags c required class)) bits → IsLeastFailing c required class bits
    some bits is = record {
      size = is.size;
      failing = there bits is.has;
      lesser = least_passes c (class_flags c required class) (is_failing c required class (class_flags c required class)) (Failing c required class) values there back bits is;
    }
