-- The steps that prove bits least.
-- An input that is on rests on decisions below it alone, since it was undecided at each of them or assigned before; so
-- with these off it clashes (`least_clash`).
use Rattle.std.proofs.Common.{◌≡◌, inl, inr, ℕ, zero, suc, ◌+◌, ◌*◌, ◌/◌, ◌<◌, Bool, true, false, cond, Option, Some, None, List, [], ◌∷◌, ◌++◌, length, take, get_or, refl, sym, ap, subst, ◌∙◌, append_assoc, append-nil, length-append, arith}
use Rattle.std.specs.Prelude.{slice_get, slice_set, replicate}
use Rattle.std.proofs.lemmas.Bool.{cases_lt}
use Rattle.std.proofs.lemmas.List.{map-append}
use Rattle.gv_logic.specs.Formulas.{Formula}
use Rattle.gv_logic.specs.Kept.{IsRising, AllOff}
use Rattle.gv_logic.specs.Logs.{with_unit as made, Step, started, last_is_false, unit_of, and_then, refuted, follows, step_clauses, set_clause, HasList, offs, least_set}
use Rattle.gv_logic.specs.Partial.{is_true, unit_after, Has, AllQuiet, IsProper}
use Rattle.gv_solver.specs.Found.{bits_to}
use Rattle.gv_solver.specs.Clash.{Derived, Clashes}
use Rattle.gv_solver.specs.Marks.{Below}
use Rattle.gv_solver.specs.Proving.{Proves}
use Rattle.gv_solver.specs.Search.{IsAssigned, IsOrdered}
use Rattle.gv_trail.specs.Derived.{IsDerived, HasReason}
use Rattle.gv_trail.specs.Entries.{Entry, State, assignment, made_true}
use Rattle.gv_logic.specs.Opposites.{set_here, proper_none, opposite_even}
use Rattle.gv_solver.proofs.Core.{below_set, set_below, below_none, is_off}
use Rattle.gv_solver.proofs.Derive.{below_made, proper_made, next_true, has_off}
use Rattle.gv_solver.proofs.Drop.{rising_from}
use Rattle.gv_solver.proofs.Down.{rising_append, rising_more}
use Rattle.gv_solver.proofs.Lessons.{get_more, valid_append, has_last}

-- more names do no harm
pub refuted_more : (names ds : List (List ℕ)) (hints : List ℕ) (on : List Bool) → refuted hints names on ≡ true → refuted hints (names ++ ds) on ≡ true
refuted_more names ds [] on e = cc
refuted_more names ds (h ∷ []) on e = by (slice_get names h) refl e
  where
    by : (o : Option (List ℕ)) → slice_get names h ≡ o → last_is_false on o ≡ true → refuted (h ∷ []) (names ++ ds) on ≡ true
    by None s e = cc
    by (Some c) s e = rw (get_more names ds h c s) e
refuted_more names ds (h ∷ g ∷ hs) on e = by (slice_get names h) refl e (λ on' r. refuted_more names ds (g ∷ hs) on' r)
  where
    last : (c : List ℕ) → slice_get names h ≡ Some c → (u : Option ℕ) → unit_after on None c ≡ u → and_then (made on u) (refuted (g ∷ hs) names) ≡ true
        → ((on' : List Bool) → refuted (g ∷ hs) names on' ≡ true → refuted (g ∷ hs) (names ++ ds) on' ≡ true) → refuted (h ∷ g ∷ hs) (names ++ ds) on ≡ true
    last c s None i e go = cc
    last c s (Some l) i e go = rw (get_more names ds h c s, i) (go (slice_set on l true) e)

    by : (o : Option (List ℕ)) → slice_get names h ≡ o → and_then (made on (unit_of on o)) (refuted (g ∷ hs) names) ≡ true
        → ((on' : List Bool) → refuted (g ∷ hs) names on' ≡ true → refuted (g ∷ hs) (names ++ ds) on' ≡ true) → refuted (h ∷ g ∷ hs) (names ++ ds) on ≡ true
    by None s e go = cc
    by (Some c) s e go = last c s (unit_after on None c) refl e go

pub follows_more : (n : ℕ) (names ds : List (List ℕ)) (c hints : List ℕ) → follows n names c hints ≡ true → follows n (names ++ ds) c hints ≡ true
follows_more n names ds c hints e = by (started (replicate n false) c) e
  where
    by : (o : Option (List Bool)) → and_then o (refuted hints names) ≡ true → and_then o (refuted hints (names ++ ds)) ≡ true
    by None e = e
    by (Some on) e = refuted_more names ds hints on e

-- what rests on decisions below i alone
reaches : (cs : List (List ℕ)) (on p : List Bool) (es : List Entry) (i : ℕ) → IsDerived cs on es → IsOrdered on es → Below on p → IsProper p → AllQuiet p cs
    → IsProper (made_true on es) → ((j : ℕ) → j < i → is_true (made_true on es) (2 * j + 1) ≡ true → is_true p (2 * j + 1) ≡ true)
    → is_true (made_true on es) (2 * i) ≡ true → is_true p (2 * i) ≡ true
reaches cs on p [] i d o f pr q fp low t = f.at (2 * i) t
reaches cs on p (e ∷ es) i d o f pr q fp low t =
    by e.reason refl d.0.reason (λ new. reaches cs (slice_set on e.lit true) p es i d.1 o.1 (set_below on p e.lit f new) pr q fp low t)
  where
    here : is_true (made_true (slice_set on e.lit true) es) e.lit ≡ true
    here = (below_made (slice_set on e.lit true) es).at e.lit (set_here on e.lit d.0.range)

    here_as : (l : ℕ) → e.lit ≡ l → is_true (made_true (slice_set on e.lit true) es) l ≡ true
    here_as l q = subst (λ k. is_true (made_true (slice_set on e.lit true) es) k ≡ true) q here

    final : (l : ℕ) → is_true on l ≡ true → is_true (made_true (slice_set on e.lit true) es) l ≡ true
    final l h = (below_made (slice_set on e.lit true) es).at l ((below_set on e.lit).at l h)

    never : is_true (made_true (slice_set on e.lit true) es) (2 * i + 1) ≡ true → ⊥
    never h = fp.both (2 * i) t (rw (opposite_even i) h)

    decision : (m : ℕ) → e.lit ≡ 2 * m + 1 → ((j : ℕ) → j < m → IsAssigned on j) → (is_true p e.lit ≡ true → is_true p (2 * i) ≡ true) → is_true p (2 * i) ≡ true
    decision m is least go = elim (cases_lt m i) [
      | inl lt ↦ go (rw is (low m lt (here_as (2 * m + 1) is)))
      | inr ge ↦ elim (cases_lt i m) [
        | inl gt ↦ elim (least i gt) [ inl h ↦ f.at (2 * i) h | inr h ↦ absurd (never (final (2 * i + 1) h)) ]
        | inr le ↦ let same : m ≡ i = omega (arith, ge, le) in absurd (never (here_as (2 * i + 1) (is ∙ ap (λ k. 2 * k + 1) same)))
      ]
    ]

    by : (r : Option ℕ) → e.reason ≡ r → HasReason cs on e.lit r → (is_true p e.lit ≡ true → is_true p (2 * i) ≡ true) → is_true p (2 * i) ≡ true
    by None r h go = let l = o.0 r in decision (e.lit / 2) l.0 l.1 go
    by (Some k) r h go = go (next_true cs on p e.lit (Some k) h f pr q (λ z. absurd (no_ z)))
      where
        no_ : Some k ≡ None → ⊥
        no_ z = cc

zero-add : (j : ℕ) → 0 + j ≡ j
zero-add j = omega arith

has_offs : (p i : ℕ) (bs : List Bool) (j : ℕ) → j < i → j < length bs → get_or bs j false ≡ false → Has (p + j) (offs p (take i bs))
has_offs p i [] j lt in_ e = absurd (omega (arith, in_))
has_offs p zero (b ∷ bs) j lt in_ e = absurd (omega (arith, lt))
has_offs p (suc i) (b ∷ bs) zero lt in_ e = rw e (inl (omega arith))
has_offs p (suc i) (b ∷ bs) (suc j) lt in_ e = by b (subst (λ m. Has m (offs (p + 1) (take i bs))) (omega arith) (has_offs (p + 1) i bs j (omega (arith, lt)) (omega (arith, in_)) e))
  where
    by : (v : Bool) → Has (p + suc j) (offs (p + 1) (take i bs)) → Has (p + suc j) (cond v (offs (p + 1) (take i bs)) (p ∷ offs (p + 1) (take i bs)))
    by true h = h
    by false h = inr h

rising_offs : (p i : ℕ) (bs : List Bool) → IsRising p (p + i) (offs p (take i bs))
rising_offs p zero [] = omega arith
rising_offs p (suc i) [] = omega arith
rising_offs p zero (b ∷ bs) = omega arith
rising_offs p (suc i) (b ∷ bs) = by b (rising_more (p + 1) (p + 1 + i) (p + suc i) (offs (p + 1) (take i bs)) (omega arith) (rising_offs (p + 1) i bs))
  where
    by : (v : Bool) → IsRising (p + 1) (p + suc i) (offs (p + 1) (take i bs)) → IsRising p (p + suc i) (cond v (offs (p + 1) (take i bs)) (p ∷ offs (p + 1) (take i bs)))
    by true r = rising_from (p + 1) p (p + suc i) (offs (p + 1) (take i bs)) (omega arith) r
    by false r = (omega arith, r)

pub rising_least : (i n : ℕ) (bits : List Bool) → i < n → IsRising 0 n (least_set bits i)
rising_least i n bits lt =
    rising_more 0 (i + 1) n (least_set bits i) (omega (arith, lt)) (rising_append 0 i (offs 0 (take i bits)) (rising_more 0 (0 + i) i (offs 0 (take i bits)) (omega arith) (rising_offs 0 i bits)))

pub length-bits : (on : List Bool) (n : ℕ) → length (bits_to on n) ≡ n
length-bits on zero = refl
length-bits on (suc n) = let h = length-bits on n in length-append (bits_to on n) (is_true on (2 * n) ∷ []) ∙ omega (arith, h)

get_front : (xs : List Bool) (y : Bool) (i : ℕ) → i < length xs → get_or (xs ++ y ∷ []) i false ≡ get_or xs i false
get_front [] y i lt = absurd (omega (arith, lt))
get_front (x ∷ xs) y zero lt = refl
get_front (x ∷ xs) y (suc i) lt = get_front xs y i (omega (arith, lt))

get_end : (xs : List Bool) (y : Bool) → get_or (xs ++ y ∷ []) (length xs) false ≡ y
get_end [] y = refl
get_end (x ∷ xs) y = get_end xs y

pub get_bits : (on : List Bool) (n i : ℕ) → i < n → get_or (bits_to on n) i false ≡ is_true on (2 * i)
get_bits on zero i lt = absurd (omega (arith, lt))
get_bits on (suc n) i lt = elim (cases_lt i n) [
  | inl l ↦ get_front (bits_to on n) (is_true on (2 * n)) i (rw (length-bits on n) l) ∙ get_bits on n i l
  | inr g ↦ let same : i ≡ n = omega (arith, g, lt) in rw same (ap (λ k. get_or (bits_to on n ++ is_true on (2 * n) ∷ []) k false) (sym (length-bits on n)) ∙ get_end (bits_to on n) (is_true on (2 * n)))
]

off_left : (on : List Bool) (xs ys : List ℕ) → AllOff on (xs ++ ys) → AllOff on xs
off_left on [] ys a = tt
off_left on (x ∷ xs) ys a = (a.0, off_left on xs ys a.1)

off_right : (on : List Bool) (xs ys : List ℕ) → AllOff on (xs ++ ys) → AllOff on ys
off_right on [] ys a = a
off_right on (x ∷ xs) ys a = off_right on xs ys a.1

-- an input that is on isn't off where those below it are as they are
pub least_clash : (cs : List (List ℕ)) (inputs : ℕ) (s : State) (i : ℕ) → Derived cs s → IsOrdered (replicate (2 * s.variables) false) s.entries → i < inputs
    → get_or (bits_to (assignment s) inputs) i false ≡ true → Clashes (least_set (bits_to (assignment s) inputs) i) cs
least_clash cs inputs s i d o lt on open_ =
    let bits = bits_to (assignment s) inputs in
    let proper = proper_made cs (replicate (2 * s.variables) false) s.entries (proper_none (2 * s.variables)) d in
    let offs_ = off_left open_.on (offs 0 (take i (bits_to (assignment s) inputs))) (i ∷ []) open_.off in
    let off_ = (off_right open_.on (offs 0 (take i (bits_to (assignment s) inputs))) (i ∷ []) open_.off).0 in
    let low : (j : ℕ) → j < i → is_true (assignment s) (2 * j + 1) ≡ true → is_true open_.on (2 * j + 1) ≡ true =
    λ j l t. has_off open_.on (offs 0 (take i (bits_to (assignment s) inputs))) j offs_
    (subst (λ m. Has m (offs 0 (take i (bits_to (assignment s) inputs)))) (zero-add j) (has_offs 0 i (bits_to (assignment s) inputs) j l (rw (length-bits (assignment s) inputs) (omega (arith, l, lt))) (get_bits (assignment s) inputs j (omega (arith, l, lt)) ∙ is_off (assignment s) (2 * j) proper (rw (opposite_even j) t)))) in
    let new = reaches cs (replicate (2 * s.variables) false) open_.on s.entries i d o (below_none (2 * s.variables) open_.on) open_.proper open_.quiet proper low (sym (get_bits (assignment s) inputs i lt) ∙ on) in
    open_.proper.both (2 * i) new (rw (opposite_even i) off_)

has_front : (c : List ℕ) (xs ys : List (List ℕ)) → HasList c xs → HasList c (xs ++ ys)
has_front c [] ys h = absurd h
has_front c (x ∷ xs) ys h = elim h [ inl s ↦ inl s | inr g ↦ inr (has_front c xs ys g) ]

-- one more step
pub proved_more : (names : Formula) (bits : List Bool) (i : ℕ) (old log after : List Step) (s : Step) → Proves names bits i old log → after ≡ log ++ s ∷ []
    → s.clause ≡ set_clause (least_set bits i) → follows (2 * names.variables) names.clauses s.clause s.hints ≡ true → Proves names bits (i + 1) old after
proved_more names bits i old log after s p is clause fol f same v e =
    let q = p f same v e in
    let n : 2 * f.variables ≡ 2 * names.variables = ap (λ x. 2 * x) same in
    let steps : step_clauses (log ++ s ∷ []) ≡ step_clauses log ++ s.clause ∷ [] = map-append (λ (x : Step). x.clause) log (s ∷ []) in
    let here : HasList (set_clause (least_set bits i)) (step_clauses log ++ s.clause ∷ []) = subst (λ c. HasList c (step_clauses log ++ s.clause ∷ [])) clause (has_last s.clause (step_clauses log)) in
    rw is (record {
      valid = valid_append (2 * f.variables) f.clauses log s 0 q.valid (rw (q.names_are, n) (follows_more (2 * names.variables) names.clauses q.more s.clause s.hints fol));
      more = q.more ++ s.clause ∷ [];
      names_are = ap (λ x. f.clauses ++ x) steps ∙ sym (append_assoc f.clauses (step_clauses log) (s.clause ∷ [])) ∙ ap (λ x. x ++ s.clause ∷ []) q.names_are ∙ append_assoc names.clauses q.more (s.clause ∷ []);
      least = λ j l t. elim (cases_lt j i) [
        | inl k ↦ subst (HasList (set_clause (least_set bits j))) (sym steps) (has_front (set_clause (least_set bits j)) (step_clauses log) (s.clause ∷ []) (q.least j k t))
        | inr g ↦ let at_ : j ≡ i = omega (arith, g, l) in subst (λ m. HasList (set_clause (least_set bits m)) (step_clauses (log ++ s ∷ []))) (sym at_) (subst (HasList (set_clause (least_set bits i))) (sym steps) here)
      ];
      count = let a = length-append log (s ∷ []) in omega (arith, q.count, a);
    })

-- no step for an input that is off
pub proved_skip : (names : Formula) (bits : List Bool) (i : ℕ) (old log : List Step) → Proves names bits i old log → get_or bits i false ≡ false → Proves names bits (i + 1) old log
proved_skip names bits i old log p off f same v e =
    let q = p f same v e in
    record {
      valid = q.valid;
      more = q.more;
      names_are = q.names_are;
      least = λ j l t. elim (cases_lt j i) [ inl k ↦ q.least j k t | inr g ↦ let at_ : j ≡ i = omega (arith, g, l) in absurd (no_ (get_or bits i false) (rw at_ at t) off) ];
      count = omega (arith, q.count);
    }
  where
    no_ : (b : Bool) → b ≡ true → b ≡ false → ⊥
    no_ b t f = cc

pub proved_none : (names : Formula) (bits : List Bool) (old : List Step) → Proves names bits 0 old old
proved_none names bits old f same v e = record { valid = v; more = []; names_are = sym e ∙ sym (append-nil names.clauses); least = λ j l t. absurd (omega (arith, l)); count = omega arith }
