-- The way down.
-- A new set is among the decisions, and these never have all members of an earlier set (`free_append`): the last of
-- them was decided after a complete propagation, where that set's clause would have been unit. For a clause that came
-- since, see `Retreat`.
use Rattle.std.proofs.Common.{◌≡◌, ◌⊎◌, inl, inr, ℕ, ◌+◌, ◌*◌, ◌/◌, ◌≤◌, Bool, true, false, Option, Some, None, List, [], ◌∷◌, ◌++◌, refl, sym, ap, subst, ◌∙◌, arith}
use Rattle.std.specs.Prelude.{slice_get, slice_set, replicate}
use Rattle.std.specs.List.{AllByRecursion}
use Rattle.std.proofs.lemmas.Bool.{cases_lt}
use Rattle.gv_logic.specs.Formulas.{Formula}
use Rattle.gv_logic.specs.Kept.{IsRising, IsWithin}
use Rattle.gv_logic.specs.Literals.{opposite}
use Rattle.gv_logic.specs.Logs.{set_clause}
use Rattle.gv_logic.specs.Partial.{is_true, unit_after, Has, AllQuiet, IsProper}
use Rattle.gv_solver.specs.Clash.{decided, decided_or, AreAmong}
use Rattle.gv_solver.specs.Marks.{Below}
use Rattle.gv_solver.specs.Puts.{Grows, Settles}
use Rattle.gv_solver.specs.Search.{IsAssigned, IsLeast, IsOrdered, AreFree, Ready, IsSearch, IsSearched}
use Rattle.gv_trail.specs.Derived.{IsDerived, IsTrail}
use Rattle.gv_trail.specs.Propagation.{AreForced}
use Rattle.gv_trail.specs.Entries.{Entry, State, assignment, made_true}
use Rattle.gv_trail.specs.declared.propagation.Propagation.{Propagation}
use Rattle.gv_logic.specs.Opposites.{set_here, opposite_even}
use Rattle.gv_solver.proofs.Core.{unit_from, quiet_at}
use Rattle.gv_solver.proofs.Derive.{below_made}

half : (i : ℕ) → (2 * i + 1) / 2 ≡ i
half i = omega arith

pub decided_append : (es : List Entry) (e : Entry) → decided (es ++ e ∷ []) ≡ decided es ++ decided_or e.reason e.lit []
decided_append [] e = refl
decided_append (x ∷ xs) e = by x.reason (decided_append xs e)
  where
    by : (r : Option ℕ) → decided (xs ++ e ∷ []) ≡ decided xs ++ decided_or e.reason e.lit [] → decided_or r x.lit (decided (xs ++ e ∷ [])) ≡ decided_or r x.lit (decided xs) ++ decided_or e.reason e.lit []
    by None h = ap (λ ys. x.lit / 2 ∷ ys) h
    by (Some k) h = h

pub decided_forced : (cs : List (List ℕ)) (level : ℕ) (on : List Bool) (es fs : List Entry) → AreForced cs level on fs → decided (es ++ fs) ≡ decided es
decided_forced cs level on [] [] h = refl
decided_forced cs level on [] (f ∷ fs) h = rw h.0.reason_is (decided_forced cs level (slice_set on f.lit true) [] fs h.1)
decided_forced cs level on (x ∷ xs) fs h = ap (λ ys. decided_or x.reason x.lit ys) (decided_forced cs level on xs fs h)

pub ordered_append : (on : List Bool) (es : List Entry) (e : Entry) → IsOrdered on es → (e.reason ≡ None → IsLeast (made_true on es) e.lit) → IsOrdered on (es ++ e ∷ [])
ordered_append on [] e o n = (n, tt)
ordered_append on (x ∷ xs) e o n = (o.0, ordered_append (slice_set on x.lit true) xs e o.1 n)

ordered_forced : (cs : List (List ℕ)) (level : ℕ) (on at : List Bool) (fs : List Entry) → AreForced cs level on fs → IsOrdered at fs
ordered_forced cs level on at [] h = tt
ordered_forced cs level on at (f ∷ fs) h = (λ r. absurd (no_ h.0.number (sym h.0.reason_is ∙ r)), ordered_forced cs level (slice_set on f.lit true) (slice_set at f.lit true) fs h.1)
  where
    no_ : (k : ℕ) → Some k ≡ None → ⊥
    no_ k q = cc

ordered_both : (on : List Bool) (es fs : List Entry) → IsOrdered on es → ((at : List Bool) → IsOrdered at fs) → IsOrdered on (es ++ fs)
ordered_both on [] fs o f = f on
ordered_both on (e ∷ es) fs o f = (o.0, ordered_both (slice_set on e.lit true) es fs o.1 f)

pub rising_append : (b i : ℕ) (xs : List ℕ) → IsRising b i xs → IsRising b (i + 1) (xs ++ i ∷ [])
rising_append b i [] r = (r, omega arith)
rising_append b i (x ∷ xs) r = (r.0, rising_append (x + 1) i xs r.1)

pub rising_more : (b s t : ℕ) (xs : List ℕ) → s ≤ t → IsRising b s xs → IsRising b t xs
rising_more b s t [] le r = omega (arith, le, r)
rising_more b s t (x ∷ xs) le r = (r.0, rising_more (x + 1) s t xs le r.1)

-- what was decided is off
pub decided_off : (on : List Bool) (es : List Entry) (i : ℕ) → (cs : List (List ℕ)) → IsDerived cs on es → IsOrdered on es → Has i (decided es) → is_true (made_true on es) (2 * i + 1) ≡ true
decided_off on [] i cs d o h = absurd h
decided_off on (e ∷ es) i cs d o h = by e.reason refl h (λ g. decided_off (slice_set on e.lit true) es i cs d.1 o.1 g)
  where
    here : (l : ℕ) → e.lit ≡ l → is_true (made_true (slice_set on e.lit true) es) l ≡ true
    here l q = (below_made (slice_set on e.lit true) es).at l (rw (← q) (set_here on e.lit d.0.range))

    by : (r : Option ℕ) → e.reason ≡ r → Has i (decided_or r e.lit (decided es)) → (Has i (decided es) → is_true (made_true (slice_set on e.lit true) es) (2 * i + 1) ≡ true) → is_true (made_true (slice_set on e.lit true) es) (2 * i + 1) ≡ true
    by None q k go = elim k [ inl s ↦ here (2 * i + 1) ((o.0 q).0 ∙ ap (λ m. 2 * m + 1) s) | inr g ↦ go g ]
    by (Some n) q k go = go k

-- the last of a set to be decided
within_last : (ts xs : List ℕ) (i : ℕ) → IsWithin ts (xs ++ i ∷ []) → IsWithin ts xs ⊎ Has i ts
within_last [] xs i w = inl tt
within_last (t ∷ ts) xs i w = elim (within_last ts xs i w.1) [
  | inl r ↦ elim (last xs t w.0) [ inl h ↦ inl (h, r) | inr s ↦ inr (inl s) ]
  | inr h ↦ inr (inr h)
]
  where
    last : (ys : List ℕ) (m : ℕ) → Has m (ys ++ i ∷ []) → Has m ys ⊎ (m ≡ i)
    last [] m h = elim h [ inl s ↦ inr (sym s) | inr g ↦ absurd g ]
    last (y ∷ ys) m h = elim h [ inl s ↦ inl (inl s) | inr g ↦ elim (last ys m g) [ inl k ↦ inl (inr k) | inr s ↦ inr s ] ]

has_literal : (ts : List ℕ) (i : ℕ) → Has i ts → Has (2 * i) (set_clause ts)
has_literal [] i h = absurd h
has_literal (t ∷ ts) i h = elim h [ inl s ↦ inl (ap (λ m. 2 * m) s) | inr g ↦ inr (has_literal ts i g) ]

others_off : (on : List Bool) (ts xs : List ℕ) (i : ℕ) → ((j : ℕ) → Has j xs → is_true on (2 * j + 1) ≡ true) → IsWithin ts (xs ++ i ∷ [])
    → AllByRecursion (λ x. (x ≡ 2 * i) ⊎ (is_true on (opposite x) ≡ true)) (set_clause ts)
others_off on [] xs i f w = tt
others_off on (t ∷ ts) xs i f w = (elim (last xs t w.0) [ inl h ↦ inr (rw (opposite_even t) (f t h)) | inr s ↦ inl (ap (λ m. 2 * m) s) ], others_off on ts xs i f w.1)
  where
    last : (ys : List ℕ) (m : ℕ) → Has m (ys ++ i ∷ []) → Has m ys ⊎ (m ≡ i)
    last [] m h = elim h [ inl s ↦ inr (sym s) | inr g ↦ absurd g ]
    last (y ∷ ys) m h = elim h [ inl s ↦ inl (inl s) | inr g ↦ elim (last ys m g) [ inl k ↦ inl (inr k) | inr s ↦ inr s ] ]

-- a set whose clause is quiet isn't decided wholly by one more decision
free_append : (cs : List (List ℕ)) (on : List Bool) (es : List Entry) (i : ℕ) → AreFree cs (decided es) → AllQuiet on cs → IsProper on → is_true on (2 * i) ≡ false → is_true on (2 * i + 1) ≡ false
    → ((j : ℕ) → Has j (decided es) → is_true on (2 * j + 1) ≡ true)
    → (t : ℕ) (ts : List ℕ) (k : ℕ) → slice_get cs k ≡ Some (set_clause (t ∷ ts)) → IsWithin (t ∷ ts) (decided es ++ i ∷ []) → ⊥
free_append cs on es i f q p n m d t ts k s w = elim (within_last (t ∷ ts) (decided es) i w) [
  | inl r ↦ f t ts k s r
  | inr h ↦ none (unit_after on None (set_clause (t ∷ ts))) (unit_from on (set_clause (t ∷ ts)) (2 * i) p n (rw (opposite_even i) m) (has_literal (t ∷ ts) i h) (others_off on (t ∷ ts) (decided es) i d w))
      (quiet_at on cs k (set_clause (t ∷ ts)) q s).1
]
  where
    none : (o : Option ℕ) → o ≡ Some (2 * i) → o ≡ None → ⊥
    none o a b = cc

assigned_more : (a b : List Bool) (j : ℕ) → Below a b → IsAssigned a j → IsAssigned b j
assigned_more a b j f h = elim h [ inl t ↦ inl (f.at (2 * j) t) | inr t ↦ inr (f.at (2 * j + 1) t) ]

-- the least input that wasn't assigned is decided
pub search_decide : (f : Formula) (i : ℕ) (old new : State) → IsSearch f.clauses i old → IsTrail f old → AllQuiet (assignment old) f.clauses
    → is_true (assignment old) (2 * i + 1) ≡ false → is_true (assignment old) (2 * i) ≡ false
    → new.variables ≡ old.variables → new.entries ≡ old.entries ++ (record { lit = 2 * i + 1; reason = None; level = old.level + 1 }) ∷ []
    → Grows (i ∷ []) old new → is_true (assignment new) (2 * i + 1) ≡ true → IsSearch f.clauses (i + 1) new
search_decide f i old new s t q off on v is g set_ =
    let e : Entry = record { lit = 2 * i + 1; reason = None; level = old.level + 1 } in
    let dec : decided (old.entries ++ e ∷ []) ≡ decided old.entries ++ i ∷ [] = decided_append old.entries e ∙ ap (λ m. decided old.entries ++ m ∷ []) (half i) in
    record {
      ordered = rw (v, is) (ordered_append (replicate (2 * old.variables) false) old.entries e s.ordered (λ r. (rw (half i) refl, rw (half i) s.assigned)));
      rising = rw (is, dec) (rising_append 0 i (decided old.entries) s.rising);
      free = subst (AreFree f.clauses) (sym (ap decided is ∙ dec)) (free_append f.clauses (assignment old) old.entries i s.free q t.proper on off (λ j h. decided_off (replicate (2 * old.variables) false) old.entries j f.clauses t.derived s.ordered h));
      assigned = λ j l. elim (cases_lt j i) [ inl k ↦ assigned_more (assignment old) (assignment new) j g.more (s.assigned j k) | inr k ↦ let same : j ≡ i = omega (arith, k, l) in rw same (inr set_) ];
    }

pub search_settle : (f : Formula) (i : ℕ) (old new : State) (said : Propagation) → IsSearch f.clauses i old → Settles f old new said → IsSearch f.clauses i new
search_settle f i old new said s t =
    let dec : decided (old.entries ++ t.added.0) ≡ decided old.entries = decided_forced f.clauses old.level (assignment old) old.entries t.added.0 t.added.2 in
    record {
      ordered = rw (t.variables, t.added.1) (ordered_both (replicate (2 * old.variables) false) old.entries t.added.0 s.ordered (λ at. ordered_forced f.clauses old.level (assignment old) at t.added.0 t.added.2));
      rising = rw (t.added.1, dec) s.rising;
      free = subst (AreFree f.clauses) (sym (ap decided t.added.1 ∙ dec)) s.free;
      assigned = λ j l. assigned_more (assignment old) (assignment new) j t.more (s.assigned j l);
    }

pub search_skip : (cs : List (List ℕ)) (i : ℕ) (s : State) → IsSearch cs i s → IsAssigned (assignment s) i → IsSearch cs (i + 1) s
search_skip cs i s h a = record {
  ordered = h.ordered;
  rising = rising_more 0 i (i + 1) (decided s.entries) (omega arith) h.rising;
  free = h.free;
  assigned = λ j l. elim (cases_lt j i) [ inl k ↦ h.assigned j k | inr k ↦ let same : j ≡ i = omega (arith, k, l) in rw same a ];
}

none_decided : (es : List Entry) → AreAmong [] es → decided es ≡ []
none_decided [] a = refl
none_decided (e ∷ es) a = by e.reason refl (none_decided es a.1)
  where
    by : (r : Option ℕ) → e.reason ≡ r → decided es ≡ [] → decided_or r e.lit (decided es) ≡ []
    by None q h = absurd (a.0 q).1
    by (Some k) q h = h

none_ordered : (on : List Bool) (es : List Entry) → AreAmong [] es → IsOrdered on es
none_ordered on [] a = tt
none_ordered on (e ∷ es) a = (λ q. absurd (a.0 q).1, none_ordered (slice_set on e.lit true) es a.1)

pub search_start : (cs : List (List ℕ)) (s : State) → AreAmong [] s.entries → IsSearch cs 0 s
search_start cs s a =
    let dec : decided s.entries ≡ [] = none_decided s.entries a in
    record {
      ordered = none_ordered (replicate (2 * s.variables) false) s.entries a;
      rising = rw dec (omega arith);
      free = subst (AreFree cs) (sym dec) (λ t ts k q w. w.0);
      assigned = λ j lt. absurd (omega (arith, lt));
    }

pub searched : (cs : List (List ℕ)) (i n : ℕ) (s : State) → i ≤ n → IsSearch cs i s → IsSearched cs n s
searched cs i n s le h = record { ordered = h.ordered; rising = rising_more 0 i n (decided s.entries) le h.rising; free = h.free }

-- the decisions are among what was decided
among_more : (on : List Bool) (whole : List ℕ) (es : List Entry) → IsOrdered on es → ((m : ℕ) → Has m (decided es) → Has m whole) → AreAmong whole es
among_more on whole [] o f = tt
among_more on whole (e ∷ es) o f = (by e.reason refl f, among_more (slice_set on e.lit true) whole es o.1 (rest e.reason f))
  where
    rest : (r : Option ℕ) → ((m : ℕ) → Has m (decided_or r e.lit (decided es)) → Has m whole) → (m : ℕ) → Has m (decided es) → Has m whole
    rest None g m h = g m (inr h)
    rest (Some k) g m h = g m h

    by : (r : Option ℕ) → e.reason ≡ r → ((m : ℕ) → Has m (decided_or r e.lit (decided es)) → Has m whole) → e.reason ≡ None → (i : ℕ) × Has i whole × (e.lit ≡ 2 * i + 1)
    by None q g n = (e.lit / 2, g (e.lit / 2) (inl refl), (o.0 n).0)
    by (Some k) q g n = absurd (no_ (sym q ∙ n))
      where
        no_ : Some k ≡ None → ⊥
        no_ z = cc

pub among_decided : (on : List Bool) (es : List Entry) → IsOrdered on es → AreAmong (decided es) es
among_decided on es o = among_more on (decided es) es o (λ m h. h)

pub ready_same : (f : Formula) (n : ℕ) (old new : State) → Ready f n old → IsTrail f new → Ready f n new
ready_same f n old new r t = record { over = t; few = r.few; wide = r.wide }
