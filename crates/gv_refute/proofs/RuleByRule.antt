-- A step follows exactly where it meets each rule.
use Rattle.std.proofs.Common.{◌≡◌, ◌≢◌, ◌↔◌, ◌⊎◌, inl, inr, ℕ, zero, suc, ◌+◌, ◌-◌, ◌*◌, ◌%◌, ◌<◌, Bool, true, false, cond, not, nat_eq, nat_lt, ◌&&◌, Option, Some, None, List, [], ◌∷◌, length, get_or, refl, sym, subst, ap, ◌∙◌, length-set, arith}
use Rattle.std.specs.List.{AllByRecursion}
use Rattle.std.specs.Prelude.{slice_get, slice_set, replicate}
use Rattle.std.proofs.lemmas.List.{length-replicate}
use Rattle.std.proofs.lemmas.Grind.{common_steps}
use Rattle.gv_logic.specs.Literals.{opposite}
use Rattle.gv_logic.specs.Partial.{is_true, all_false, unit_after, Has}
use Rattle.gv_logic.specs.Logs.{started, last_is_false, unit_of, with_unit, and_then, refuted, follows}
use Rattle.gv_refute.specs.Rules.{IsPlain, all_off, OneLeft, Refutes, Follows}

clash : (b : Bool) → b ≡ true → b ≡ false → ⊥
clash b t f = cc

none_from : (b : Bool) (z : Option ℕ) (l : ℕ) → cond b None z ≡ Some l → (b ≡ false) × (z ≡ Some l)
none_from true z l e = cc
none_from false z l e = (refl, e)

chosen : (b : Bool) (u v z : Option ℕ) → cond b u v ≡ z → ((b ≡ true) × (u ≡ z)) ⊎ ((b ≡ false) × (v ≡ z))
chosen true u v z e = inl (refl, e)
chosen false u v z e = inr (refl, e)

same_number : (f x : ℕ) → not (nat_eq f x) ≡ false → f ≡ x
same_number f x e = grind (arith, common_steps)

not_other : (f x : ℕ) → x ≡ f → not (nat_eq f x) ≡ false
not_other f x e = grind (arith, common_steps)

abbrev NoneTrue : List Bool → List ℕ → Type 0
NoneTrue on lits = AllByRecursion (λ x. is_true on x ≡ false) lits

abbrev Others : List Bool → ℕ → List ℕ → Type 0
Others on lit lits = AllByRecursion (λ x. (x ≡ lit) ⊎ (is_true on (opposite x) ≡ true)) lits

-- a unit that was found stays the only one
unit_some : (on : List Bool) (lits : List ℕ) (g lit : ℕ) → unit_after on (Some g) lits ≡ Some lit → (g ≡ lit) × NoneTrue on lits × Others on lit lits
unit_some on [] g lit e = (cc, tt, tt)
unit_some on (x ∷ xs) g lit e =
    let n = none_from (is_true on x) _ lit e in
    elim (chosen (is_true on (opposite x)) _ _ _ n.1) [
      | inl p ↦ (let q = unit_some on xs g lit p.1 in (q.0, (n.0, q.1), (inr p.0, q.2)))
      | inr p ↦ (let o = none_from (not (nat_eq g x)) _ lit p.1 in let q = unit_some on xs x lit o.1 in (same_number g x o.0 ∙ q.0, (n.0, q.1), (inl q.0, q.2)))
    ]

unit_one : (on : List Bool) (lits : List ℕ) (lit : ℕ) → unit_after on None lits ≡ Some lit → OneLeft on lits lit
unit_one on [] lit e = cc
unit_one on (x ∷ xs) lit e =
    let n = none_from (is_true on x) _ lit e in
    elim (chosen (is_true on (opposite x)) _ _ _ n.1) [
      | inl p ↦ (let q = unit_one on xs lit p.1 in record { has = inr q.has; none_true = (n.0, q.none_true); not_false = q.not_false; others = (inr p.0, q.others) })
      | inr p ↦ (let q = unit_some on xs x lit p.1 in
          record { has = inl q.0; none_true = (n.0, q.1); not_false = subst (λ l. is_true on (opposite l) ≡ false) q.0 p.0; others = (inl q.0, q.2) })
    ]

cond_false : {A : Type 0} (b : Bool) (x y : A) → b ≡ false → cond b x y ≡ y
cond_false true x y e = cc
cond_false false x y e = refl

cond_true : {A : Type 0} (b : Bool) (x y : A) → b ≡ true → cond b x y ≡ x
cond_true true x y e = refl
cond_true false x y e = cc

some_unit : (on : List Bool) (lits : List ℕ) (lit : ℕ) → NoneTrue on lits → Others on lit lits → is_true on (opposite lit) ≡ false → unit_after on (Some lit) lits ≡ Some lit
some_unit on [] lit n o f = refl
some_unit on (x ∷ xs) lit n o f = cond_false (is_true on x) _ _ n.0 ∙ (elim o.0 [
  | inl s ↦ cond_false (is_true on (opposite x)) _ _ (subst (λ l. is_true on (opposite l) ≡ false) (sym s) f) ∙ cond_false (not (nat_eq lit x)) _ _ (not_other lit x s)
      ∙ ap (λ l. unit_after on (Some l) xs) s ∙ some_unit on xs lit n.1 o.1 f
  | inr t ↦ cond_true (is_true on (opposite x)) _ _ t ∙ some_unit on xs lit n.1 o.1 f
])

one_unit : (on : List Bool) (lits : List ℕ) (lit : ℕ) → Has lit lits → NoneTrue on lits → Others on lit lits → is_true on (opposite lit) ≡ false → unit_after on None lits ≡ Some lit
one_unit on [] lit h n o f = absurd h
one_unit on (x ∷ xs) lit h n o f = cond_false (is_true on x) _ _ n.0 ∙ (elim o.0 [
  | inl s ↦ cond_false (is_true on (opposite x)) _ _ (subst (λ l. is_true on (opposite l) ≡ false) (sym s) f) ∙ ap (λ l. unit_after on (Some l) xs) s ∙ some_unit on xs lit n.1 o.1 f
  | inr t ↦ cond_true (is_true on (opposite x)) _ _ t ∙ (elim h [
    | inl s ↦ absurd (clash (is_true on (opposite x)) t (subst (λ l. is_true on (opposite l) ≡ false) (sym s) f))
    | inr k ↦ one_unit on xs lit k n.1 o.1 f
  ])
])

and_both : (a b : Bool) → (a && b) ≡ true → (a ≡ true) × (b ≡ true)
and_both true b e = (refl, e)
and_both false b e = cc

false_each : (on : List Bool) (lits : List ℕ) → all_false on lits ≡ true → AllByRecursion (λ x. is_true on (opposite x) ≡ true) lits
false_each on [] e = tt
false_each on (x ∷ xs) e = let p = and_both (is_true on (opposite x)) _ e in (p.0, false_each on xs p.1)

each_false : (on : List Bool) (lits : List ℕ) → AllByRecursion (λ x. is_true on (opposite x) ≡ true) lits → all_false on lits ≡ true
each_false on [] a = refl
each_false on (x ∷ xs) a = rw (a.0, each_false on xs a.1) refl

to_rules : (names : List (List ℕ)) (hints : List ℕ) (on : List Bool) → refuted hints names on ≡ true → Refutes hints names on
to_rules names [] on e = cc
to_rules names (h ∷ []) on e = by (slice_get names h) refl e
  where
    by : (o : Option (List ℕ)) → slice_get names h ≡ o → last_is_false on o ≡ true → (c : List ℕ) × (slice_get names h ≡ Some c) × AllByRecursion (λ x. is_true on (opposite x) ≡ true) c
    by None s e = cc
    by (Some c) s e = (c, s, false_each on c e)
to_rules names (h ∷ g ∷ hs) on e = by (slice_get names h) refl e (λ l r. to_rules names (g ∷ hs) (slice_set on l true) r)
  where
    last : (c : List ℕ) → slice_get names h ≡ Some c → (u : Option ℕ) → unit_after on None c ≡ u → and_then (with_unit on u) (refuted (g ∷ hs) names) ≡ true
        → ((l : ℕ) → refuted (g ∷ hs) names (slice_set on l true) ≡ true → Refutes (g ∷ hs) names (slice_set on l true))
        → (c : List ℕ) × (lit : ℕ) × (slice_get names h ≡ Some c) × OneLeft on c lit × Refutes (g ∷ hs) names (slice_set on lit true)
    last c s None i e go = cc
    last c s (Some l) i e go = (c, l, s, unit_one on c l i, go l e)

    by : (o : Option (List ℕ)) → slice_get names h ≡ o → and_then (with_unit on (unit_of on o)) (refuted (g ∷ hs) names) ≡ true
        → ((l : ℕ) → refuted (g ∷ hs) names (slice_set on l true) ≡ true → Refutes (g ∷ hs) names (slice_set on l true))
        → (c : List ℕ) × (lit : ℕ) × (slice_get names h ≡ Some c) × OneLeft on c lit × Refutes (g ∷ hs) names (slice_set on lit true)
    by None s e go = cc
    by (Some c) s e go = last c s (unit_after on None c) refl e go

from_rules : (names : List (List ℕ)) (hints : List ℕ) (on : List Bool) → Refutes hints names on → refuted hints names on ≡ true
from_rules names [] on r = absurd r
from_rules names (h ∷ []) on r = rw r.1 (each_false on r.0 r.2)
from_rules names (h ∷ g ∷ hs) on r =
    let u = one_unit on r.0 r.1 r.3.has r.3.none_true r.3.others r.3.not_false in
    rw (r.2, u) (from_rules names (g ∷ hs) (slice_set on r.1 true) r.4)

-- what the start asks of each literal at its turn
abbrev Turns : List Bool → List ℕ → Type 0
Turns on [] = Unit {0}
Turns on (l ∷ ls) = (l < length on) × (is_true on l ≡ false) × (is_true on (opposite l) ≡ false) × Turns (slice_set on (opposite l) true) ls

some_then : (b : Bool) (o : Option (List Bool)) (x : List Bool) → cond b o None ≡ Some x → (b ≡ true) × (o ≡ Some x)
some_then true o x e = (refl, e)
some_then false o x e = cc

tests : (a b c : Bool) → (a && (not b && not c)) ≡ true → (a ≡ true) × (b ≡ false) × (c ≡ false)
tests true true c e = cc
tests true false true e = cc
tests true false false e = (refl, refl, refl)
tests false b c e = cc

less_is : (m n : ℕ) → nat_lt m n ≡ true → m < n
less_is m n e = grind (arith, common_steps)

is_less : (m n : ℕ) → m < n → nat_lt m n ≡ true
is_less m n e = grind (arith, common_steps)

starts : (lits : List ℕ) (on on' : List Bool) → started on lits ≡ Some on' → Turns on lits × (on' ≡ all_off on lits)
starts [] on on' e = (tt, let s : on ≡ on' = cc in sym s)
starts (l ∷ ls) on on' e =
    let p = some_then (nat_lt l (length on) && (not (is_true on l) && not (is_true on (opposite l)))) _ on' e in
    let t = tests (nat_lt l (length on)) (is_true on l) (is_true on (opposite l)) p.0 in
    let r = starts ls (slice_set on (opposite l) true) on' p.1 in
    ((less_is l (length on) t.0, t.1, t.2, r.0), r.1)

turns_start : (lits : List ℕ) (on : List Bool) → Turns on lits → started on lits ≡ Some (all_off on lits)
turns_start [] on t = refl
turns_start (l ∷ ls) on t = rw (is_less l (length on) t.0, t.1, t.2) (turns_start ls (slice_set on (opposite l) true) t.3)

even : (r : ℕ) → nat_eq r 0 ≡ true → r ≡ 0
even r e = grind (arith, common_steps)

odd : (r : ℕ) → nat_eq r 0 ≡ false → 0 < r
odd r e = grind (arith, common_steps)

opposite_below : (v l : ℕ) → l < 2 * v → opposite l < 2 * v
opposite_below v l lt = by (nat_eq (l % 2) 0) refl
  where
    by : (b : Bool) → nat_eq (l % 2) 0 ≡ b → cond b (l + 1) (l - 1) < 2 * v
    by true e = let z = even (l % 2) e in omega (arith, z, lt)
    by false e = omega (arith, lt)

opposite_twice : (l : ℕ) → opposite (opposite l) ≡ l
opposite_twice l = by (nat_eq (l % 2) 0) refl
  where
    by : (b : Bool) → nat_eq (l % 2) 0 ≡ b → opposite (cond b (l + 1) (l - 1)) ≡ l
    by true e = let z = even (l % 2) e in let r : (l + 1) % 2 ≡ 1 = omega (arith, z) in rw r (omega arith)
    by false e = let z = odd (l % 2) e in let r : (l - 1) % 2 ≡ 0 = omega (arith, z) in rw r (omega (arith, z))

set_here : (on : List Bool) (i : ℕ) → i < length on → get_or (slice_set on i true) i false ≡ true
set_here [] i lt = absurd (omega (arith, lt))
set_here (b ∷ bs) zero lt = refl
set_here (b ∷ bs) (suc i) lt = set_here bs i (omega (arith, lt))

unset : (on : List Bool) (i k : ℕ) → get_or (slice_set on i true) k false ≡ false → get_or on k false ≡ false
unset [] i k e = e
unset (b ∷ bs) zero zero e = cc
unset (b ∷ bs) zero (suc k) e = e
unset (b ∷ bs) (suc i) zero e = e
unset (b ∷ bs) (suc i) (suc k) e = unset bs i k e

elsewhere : (on : List Bool) (i k : ℕ) → (k ≡ i → ⊥) → get_or on k false ≡ false → get_or (slice_set on i true) k false ≡ false
elsewhere [] i k no_ e = e
elsewhere (b ∷ bs) zero zero no_ e = absurd (no_ refl)
elsewhere (b ∷ bs) zero (suc k) no_ e = e
elsewhere (b ∷ bs) (suc i) zero no_ e = e
elsewhere (b ∷ bs) (suc i) (suc k) no_ e = elsewhere bs i k (λ s. no_ (ap suc s)) e

-- neither the literal nor its opposite is true
abbrev Open : List Bool → List ℕ → Type 0
Open on ls = AllByRecursion (λ m. (is_true on m ≡ false) × (is_true on (opposite m) ≡ false)) ls

abbrev Apart : ℕ → List ℕ → Type 0
Apart l ls = AllByRecursion (λ m. (m ≢ l) × (m ≢ opposite l)) ls

open_less : (on : List Bool) (l : ℕ) (ls : List ℕ) → opposite l < length on → Open (slice_set on (opposite l) true) ls → Open on ls × Apart l ls
open_less on l [] lt o = (tt, tt)
open_less on l (m ∷ ms) lt o =
    let r = open_less on l ms lt o.1 in
    let here = set_here on (opposite l) lt in (
      ((unset on (opposite l) m o.0.0, unset on (opposite l) (opposite m) o.0.1), r.0),
      (
        (
          λ s. clash (get_or (slice_set on (opposite l) true) (opposite m) false) (subst (λ k. get_or (slice_set on (opposite l) true) (opposite k) false ≡ true) (sym s) here) o.0.1,
          λ s. clash (get_or (slice_set on (opposite l) true) m false) (subst (λ k. get_or (slice_set on (opposite l) true) k false ≡ true) (sym s) here) o.0.0,
        ),
        r.1,
      ),
    )

open_more : (on : List Bool) (l : ℕ) (ls : List ℕ) → Open on ls → Apart l ls → Open (slice_set on (opposite l) true) ls
open_more on l [] o a = tt
open_more on l (m ∷ ms) o a = (
  (
    elsewhere on (opposite l) m a.0.1 o.0.0,
    elsewhere on (opposite l) (opposite m) (λ s. a.0.0 (sym (opposite_twice m) ∙ ap opposite s ∙ opposite_twice l)) o.0.1,
  ),
  open_more on l ms o.1 a.1,
)

turns_plain : (v : ℕ) (lits : List ℕ) (on : List Bool) → length on ≡ 2 * v → Turns on lits → IsPlain (2 * v) lits × Open on lits
turns_plain v [] on n t = (tt, tt)
turns_plain v (l ∷ ls) on n t =
    let lt : l < 2 * v = omega (arith, n, t.0) in
    let r = turns_plain v ls (slice_set on (opposite l) true) (length-set on (opposite l) true ∙ n) t.3 in
    let o = open_less on l ls (omega (arith, n, opposite_below v l lt)) r.1 in
    ((lt, o.1, r.0), ((t.1, t.2), o.0))

plain_turns : (v : ℕ) (lits : List ℕ) (on : List Bool) → length on ≡ 2 * v → IsPlain (2 * v) lits → Open on lits → Turns on lits
plain_turns v [] on n p o = tt
plain_turns v (l ∷ ls) on n p o =
    (omega (arith, n, p.0), o.0.0, o.0.1, plain_turns v ls (slice_set on (opposite l) true) (length-set on (opposite l) true ∙ n) p.2 (open_more on l ls o.1 p.1))

none_true : (n k : ℕ) → get_or (replicate n false) k false ≡ false
none_true zero k = refl
none_true (suc n) zero = refl
none_true (suc n) (suc k) = none_true n k

all_open : (n : ℕ) (ls : List ℕ) → Open (replicate n false) ls
all_open n [] = tt
all_open n (l ∷ ls) = ((none_true n l, none_true n (opposite l)), all_open n ls)

pub rules : (v : ℕ) (names : List (List ℕ)) (clause hints : List ℕ) → (follows (2 * v) names clause hints ≡ true) ↔ Follows (2 * v) names clause hints
rules v names clause hints = (λ e. there (started (replicate (2 * v) false) clause) refl e, back)
  where
    long : length (replicate (2 * v) false) ≡ 2 * v
    long = length-replicate (2 * v) false

    there : (o : Option (List Bool)) → started (replicate (2 * v) false) clause ≡ o → and_then o (refuted hints names) ≡ true → Follows (2 * v) names clause hints
    there None s e = cc
    there (Some on) s e =
        let t = starts clause (replicate (2 * v) false) on s in
        ((turns_plain v clause (replicate (2 * v) false) long t.0).0, to_rules names hints (all_off (replicate (2 * v) false) clause) (subst (λ x. refuted hints names x ≡ true) t.1 e))

    back : Follows (2 * v) names clause hints → follows (2 * v) names clause hints ≡ true
    back f =
        let s = turns_start clause (replicate (2 * v) false) (plain_turns v clause (replicate (2 * v) false) long f.0 (all_open (2 * v) clause)) in
        rw s (from_rules names hints (all_off (replicate (2 * v) false) clause) f.1)
