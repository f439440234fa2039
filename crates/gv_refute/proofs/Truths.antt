-- A step that follows is true wherever the clauses that it names are.
use Rattle.std.proofs.Common.{◌≡◌, ◌⊎◌, inl, inr, ℕ, zero, suc, ◌+◌, Bool, true, false, cond, ◌||◌, not, nat_eq, Option, Some, None, List, [], ◌∷◌, ◌++◌, refl, sym, ap, ◌∙◌, arith}
use Rattle.std.specs.Prelude.{slice_get, slice_set, replicate}
use Rattle.std.proofs.lemmas.Grind.{common_steps}
use Rattle.gv_logic.specs.Literals.{opposite, lit_true, clause_true, AllTrue}
use Rattle.gv_logic.specs.Partial.{is_true, all_false, unit_after, is_other}
use Rattle.gv_logic.specs.Logs.{Step, started, last_is_false, unit_of, with_unit, and_then, refuted, follows, first_refused, step_clauses, HasList, ProvesNone}
use Rattle.gv_logic.specs.Opposites.{and_true, lit_opposite, none_true, or_false, set_is}

false_of_not : (b : Bool) → not b ≡ true → b ≡ false
false_of_not true e = cc
false_of_not false e = refl

-- the assignment's true literals are true at v
unfoldable Agrees : (ℕ → Bool) → List Bool → Type 0
Agrees v on = (lit : ℕ) → is_true on lit ≡ true → lit_true v lit ≡ true

agrees_set : (v : ℕ → Bool) (on : List Bool) (lit : ℕ) → Agrees v on → lit_true v lit ≡ true → Agrees v (slice_set on lit true)
unfolding Agrees
agrees_set v on lit a t k e = elim (set_is on lit k e) [ inl s ↦ rw s t | inr h ↦ a k h ]

agrees_none : (v : ℕ → Bool) (n : ℕ) → Agrees v (replicate n false)
unfolding Agrees
agrees_none v n k e = absurd (none_true n k e)

some_of : {X : Type 0} (b : Bool) (o : Option X) (x : X) → cond b o None ≡ Some x → o ≡ Some x
some_of true o x e = e
some_of false o x e = cc

started_agrees : (v : ℕ → Bool) (lits : List ℕ) (on on' : List Bool) → started on lits ≡ Some on' → Agrees v on → clause_true v lits ≡ false → Agrees v on'
started_agrees v [] on on' e a f = let same : on ≡ on' = cc in rw (← same) a
started_agrees v (lit ∷ lits) on on' e a f =
    let g = or_false (lit_true v lit) (clause_true v lits) f in
    started_agrees v lits (slice_set on (opposite lit) true) on' (some_of _ _ on' e)
    (agrees_set v on (opposite lit) a (lit_opposite v lit ∙ ap not g.0)) g.1

false_lit : (v : ℕ → Bool) (on : List Bool) (lit : ℕ) → Agrees v on → is_true on (opposite lit) ≡ true → lit_true v lit ≡ false
unfolding Agrees
false_lit v on lit a e = false_of_not (lit_true v lit) (sym (lit_opposite v lit) ∙ a (opposite lit) e)

all_false_is : (v : ℕ → Bool) (on : List Bool) (lits : List ℕ) → Agrees v on → all_false on lits ≡ true → clause_true v lits ≡ false
all_false_is v on [] a e = refl
all_false_is v on (lit ∷ lits) a e =
    let p = and_true (is_true on (opposite lit)) _ e in
    rw (false_lit v on lit a p.0) (all_false_is v on lits a p.1)

abbrev found_true : (ℕ → Bool) → Option ℕ → Bool
found_true v None = false
found_true v (Some lit) = lit_true v lit

none_from : (b : Bool) (z : Option ℕ) (l : ℕ) → cond b None z ≡ Some l → (b ≡ false) × (z ≡ Some l)
none_from true z l e = cc
none_from false z l e = (refl, e)

chosen : (b : Bool) (u v z : Option ℕ) → cond b u v ≡ z → ((b ≡ true) × (u ≡ z)) ⊎ ((b ≡ false) × (v ≡ z))
chosen true u v z e = inl (refl, e)
chosen false u v z e = inr (refl, e)

same_number : (f x : ℕ) → not (nat_eq f x) ≡ false → f ≡ x
same_number f x e = grind (arith, common_steps)

last_first : (a b : Bool) → (a || b || false) ≡ true → (b || a) ≡ true
last_first true true e = refl
last_first true false e = refl
last_first false true e = refl
last_first false false e = e

twice_first : (a b : Bool) → (a || b || a) ≡ true → (b || a) ≡ true
twice_first true true e = refl
twice_first true false e = refl
twice_first false true e = refl
twice_first false false e = e

-- the unit of a true clause is true
true_unit : (v : ℕ → Bool) (on : List Bool) → Agrees v on → (lits : List ℕ) (f : Option ℕ) (l : ℕ) → unit_after on f lits ≡ Some l → (clause_true v lits || found_true v f) ≡ true → lit_true v l ≡ true
true_unit v on a [] f l e t = rw e at t
true_unit v on a (x ∷ xs) None l e t =
    elim (chosen (is_true on (opposite x)) _ _ _ (none_from (is_true on x) _ l e).1) [
      | inl p ↦ true_unit v on a xs None l p.1 (rw (false_lit v on x a p.0) at t)
      | inr p ↦ true_unit v on a xs (Some x) l p.1 (last_first (lit_true v x) (clause_true v xs) t)
    ]
true_unit v on a (x ∷ xs) (Some g) l e t =
    elim (chosen (is_true on (opposite x)) _ _ _ (none_from (is_true on x) _ l e).1) [
      | inl p ↦ true_unit v on a xs (Some g) l p.1 (rw (false_lit v on x a p.0) at t)
      | inr p ↦
          let q = none_from (is_other (Some g) x) _ l p.1 in
          true_unit v on a xs (Some x) l q.1 (twice_first (lit_true v x) (clause_true v xs) (rw (same_number g x q.0) at t))
    ]

or_right : (b : Bool) → b ≡ true → (b || false) ≡ true
or_right true e = refl
or_right false e = e

get_true : (v : ℕ → Bool) (cs : List (List ℕ)) (k : ℕ) (c : List ℕ) → AllTrue v cs → slice_get cs k ≡ Some c → clause_true v c ≡ true
get_true v [] k c a e = cc
get_true v (x ∷ xs) zero c a e = let same : x ≡ c = cc in rw same at a.0
get_true v (x ∷ xs) (suc k) c a e = get_true v xs k c a.1 e

-- the hints lead to a contradiction
refuted_no : (v : ℕ → Bool) (names : List (List ℕ)) → AllTrue v names → (hints : List ℕ) (on : List Bool) → Agrees v on → refuted hints names on ≡ true → ⊥
refuted_no v names all [] on a e = cc
refuted_no v names all (h ∷ []) on a e = by (slice_get names h) refl e
  where
    by : (o : Option (List ℕ)) → slice_get names h ≡ o → last_is_false on o ≡ true → ⊥
    by None s e = cc
    by (Some c) s e = let f = all_false_is v on c a e in let t = get_true v names h c all s in cc
refuted_no v names all (h ∷ g ∷ hs) on a e = by (slice_get names h) refl e
    (λ l t r. refuted_no v names all (g ∷ hs) (slice_set on l true) (agrees_set v on l a t) r)
  where
    last : (c : List ℕ) → slice_get names h ≡ Some c → (u : Option ℕ) → unit_after on None c ≡ u → and_then (with_unit on u) (refuted (g ∷ hs) names) ≡ true
        → ((l : ℕ) → lit_true v l ≡ true → refuted (g ∷ hs) names (slice_set on l true) ≡ true → ⊥) → ⊥
    last c s None i e go = cc
    last c s (Some l) i e go = go l (true_unit v on a c None l i (or_right _ (get_true v names h c all s))) e

    by : (o : Option (List ℕ)) → slice_get names h ≡ o → and_then (with_unit on (unit_of on o)) (refuted (g ∷ hs) names) ≡ true
        → ((l : ℕ) → lit_true v l ≡ true → refuted (g ∷ hs) names (slice_set on l true) ≡ true → ⊥) → ⊥
    by None s e go = cc
    by (Some c) s e go = last c s (unit_after on None c) refl e go

pub follows_true : (v : ℕ → Bool) (n : ℕ) (names : List (List ℕ)) (c hints : List ℕ) → AllTrue v names → follows n names c hints ≡ true → clause_true v c ≡ true
follows_true v n names c hints all e = by (clause_true v c) refl
  where
    from : (o : Option (List Bool)) → started (replicate n false) c ≡ o → and_then o (refuted hints names) ≡ true → clause_true v c ≡ false → ⊥
    from None s e f = cc
    from (Some on) s e f = refuted_no v names all hints on (started_agrees v c (replicate n false) on s (agrees_none v n) f) e

    by : (b : Bool) → clause_true v c ≡ b → clause_true v c ≡ true
    by true f = f
    by false f = absurd (from (started (replicate n false) c) refl e f)

all_more : (v : ℕ → Bool) (cs : List (List ℕ)) (c : List ℕ) → AllTrue v cs → clause_true v c ≡ true → AllTrue v (cs ++ c ∷ [])
all_more v [] c a t = (t, tt)
all_more v (x ∷ xs) c a t = (a.0, all_more v xs c a.1 t)

none_refused : (b : Bool) (k : ℕ) (o : Option ℕ) → cond b o (Some k) ≡ None → (b ≡ true) × (o ≡ None)
none_refused true k o e = (refl, e)
none_refused false k o e = cc

pub log_true : (v : ℕ → Bool) (n : ℕ) (cs : List (List ℕ)) (log : List Step) (k : ℕ) → first_refused n cs log k ≡ None → AllTrue v cs → AllTrue v (step_clauses log)
log_true v n cs [] k e a = tt
log_true v n cs (s ∷ ss) k e a =
    let q = none_refused (follows n cs s.clause s.hints) k _ e in
    let t = follows_true v n cs s.clause s.hints a q.0 in
    (t, log_true v n (cs ++ s.clause ∷ []) ss (k + 1) q.1 (all_more v cs s.clause a t))

pub has_true : (v : ℕ → Bool) (c : List ℕ) (cs : List (List ℕ)) → AllTrue v cs → HasList c cs → clause_true v c ≡ true
has_true v c [] a h = absurd h
has_true v c (x ∷ xs) a h = elim h [ inl s ↦ rw (← s) a.0 | inr t ↦ has_true v c xs a.1 t ]

-- the empty clause is never true
pub none_true_at : (v : ℕ → Bool) (log : List Step) → AllTrue v (step_clauses log) → ProvesNone log → ⊥
none_true_at v log a p = let t = has_true v [] (step_clauses log) a p in cc
