-- Facts of literals and opposites, of lists of truth values, and of partial assignments, and no rule: what proofs of this crate and of those
-- above it cite.
use Rattle.std.proofs.Common.{◌≡◌, ◌⊎◌, inl, inr, ℕ, zero, suc, ◌+◌, ◌-◌, ◌*◌, ◌<◌, ◌/◌, ◌%◌, Bool, true, false, cond, not, nat_eq, ◌||◌, ◌&&◌, List, [], ◌∷◌, ◌++◌, length, get_or, refl, sym, ap, ◌∙◌, arith}
use Rattle.std.specs.Prelude.{slice_set, replicate}
use Rattle.std.proofs.lemmas.Bool.{cases_lt}
use Rattle.std.proofs.lemmas.Grind.{common_steps}
use Rattle.gv_logic.specs.Literals.{opposite, lit_true}
use Rattle.gv_logic.specs.Partial.{is_true, IsProper}

pub not_not : (b : Bool) → b ≡ not (not b)
not_not true = refl
not_not false = refl

pub even : (r : ℕ) → nat_eq r 0 ≡ true → r ≡ 0
even r e = grind (arith, common_steps)

pub odd : (r : ℕ) → nat_eq r 0 ≡ false → 0 < r
odd r e = grind (arith, common_steps)

pub opposite_even : (i : ℕ) → opposite (2 * i) ≡ 2 * i + 1
opposite_even i = let r : (2 * i) % 2 ≡ 0 = omega arith in rw r refl

pub opposite_odd : (i : ℕ) → opposite (2 * i + 1) ≡ 2 * i
opposite_odd i = let r : (2 * i + 1) % 2 ≡ 1 = omega arith in rw r (omega arith)

pub opposite_twice : (l : ℕ) → opposite (opposite l) ≡ l
opposite_twice l = by (nat_eq (l % 2) 0) refl
  where
    by : (b : Bool) → nat_eq (l % 2) 0 ≡ b → opposite (cond b (l + 1) (l - 1)) ≡ l
    by true e =
        let z = even (l % 2) e in
        let r : (l + 1) % 2 ≡ 1 = omega arith in
        rw r (omega arith)
    by false e =
        let z = odd (l % 2) e in
        let r : (l - 1) % 2 ≡ 0 = omega arith in
        rw r (omega arith)

pub opposite_other : (l : ℕ) → opposite l ≡ l → ⊥
opposite_other l = by (nat_eq (l % 2) 0) refl
  where
    by : (b : Bool) → nat_eq (l % 2) 0 ≡ b → cond b (l + 1) (l - 1) ≡ l → ⊥
    by true e h = omega (arith, h)
    by false e h = let z = odd (l % 2) e in omega (arith, h)

pub same_half : (l : ℕ) → opposite l / 2 ≡ l / 2
same_half l = by (nat_eq (l % 2) 0) refl
  where
    by : (b : Bool) → nat_eq (l % 2) 0 ≡ b → cond b (l + 1) (l - 1) / 2 ≡ l / 2
    by true e = let z = even (l % 2) e in omega (arith, z)
    by false e = let z = odd (l % 2) e in omega (arith, z)

-- two literals of a variable are equal or opposites
pub same_variable : (a b : ℕ) → a / 2 ≡ b / 2 → (a ≡ b) ⊎ (a ≡ opposite b)
same_variable a b s = by (nat_eq (b % 2) 0) refl
  where
    by : (u : Bool) → nat_eq (b % 2) 0 ≡ u → (a ≡ b) ⊎ (a ≡ cond u (b + 1) (b - 1))
    by true e = let z = even (b % 2) e in elim (cases_lt (a % 2) 1) [ inl h ↦ inl (omega (arith, s, z, h)) | inr h ↦ inr (omega (arith, s, z, h)) ]
    by false e = let z = odd (b % 2) e in elim (cases_lt (a % 2) 1) [ inl h ↦ inr (omega (arith, s, z, h)) | inr h ↦ inl (omega (arith, s, z, h)) ]

pub opposite_below : (p lit : ℕ) → lit < 2 * p → opposite lit < 2 * p
opposite_below p lit lt = by (nat_eq (lit % 2) 0) refl
  where
    by : (b : Bool) → nat_eq (lit % 2) 0 ≡ b → cond b (lit + 1) (lit - 1) < 2 * p
    by true e = let z = even (lit % 2) e in omega (arith, z, lt)
    by false e = omega (arith, lt)

-- the opposite of a literal has the other value
pub lit_opposite : (v : ℕ → Bool) (lit : ℕ) → lit_true v (opposite lit) ≡ not (lit_true v lit)
lit_opposite v lit = by (nat_eq (lit % 2) 0) refl
  where
    by : (b : Bool) → nat_eq (lit % 2) 0 ≡ b → lit_true v (cond b (lit + 1) (lit - 1)) ≡ not (cond b (v (lit / 2)) (not (v (lit / 2))))
    by true e =
        let z = even (lit % 2) e in
        let r : (lit + 1) % 2 ≡ 1 = omega arith in
        let d : (lit + 1) / 2 ≡ lit / 2 = omega arith in
        rw (r, d) refl
    by false e =
        let z = odd (lit % 2) e in
        let r : (lit - 1) % 2 ≡ 0 = omega arith in
        let d : (lit - 1) / 2 ≡ lit / 2 = omega arith in
        rw (r, d) (not_not (v (lit / 2)))

pub even_lit : (v : ℕ → Bool) (i : ℕ) → lit_true v (2 * i) ≡ v i
even_lit v i = let r : (2 * i) % 2 ≡ 0 = omega arith in let d : (2 * i) / 2 ≡ i = omega arith in rw (r, d) refl

pub odd_lit : (v : ℕ → Bool) (i : ℕ) → lit_true v (2 * i + 1) ≡ not (v i)
odd_lit v i = let r : (2 * i + 1) % 2 ≡ 1 = omega arith in let d : (2 * i + 1) / 2 ≡ i = omega arith in rw (r, d) refl

pub or_false : (a b : Bool) → (a || b) ≡ false → (a ≡ false) × (b ≡ false)
or_false true b e = cc
or_false false b e = (refl, e)

pub and_true : (a b : Bool) → (a && b) ≡ true → (a ≡ true) × (b ≡ true)
and_true true b e = (refl, e)
and_true false b e = cc

pub get_front : (xs : List Bool) (b : Bool) (i : ℕ) → i < length xs → get_or (xs ++ b ∷ []) i false ≡ get_or xs i false
get_front [] b i lt = absurd (omega (arith, lt))
get_front (x ∷ xs) b zero lt = refl
get_front (x ∷ xs) b (suc i) lt = get_front xs b i (omega (arith, lt))

pub get_end : (xs : List Bool) (b : Bool) → get_or (xs ++ b ∷ []) (length xs) false ≡ b
get_end [] b = refl
get_end (x ∷ xs) b = get_end xs b

pub set_is : (a : List Bool) (i k : ℕ) → get_or (slice_set a i true) k false ≡ true → (k ≡ i) ⊎ (get_or a k false ≡ true)
set_is [] i k e = inr e
set_is (x ∷ xs) zero zero e = inl refl
set_is (x ∷ xs) zero (suc k) e = inr e
set_is (x ∷ xs) (suc i) zero e = inr e
set_is (x ∷ xs) (suc i) (suc k) e = elim (set_is xs i k e) [ inl h ↦ inl (ap suc h) | inr h ↦ inr h ]

pub set_keeps : (a : List Bool) (i k : ℕ) → get_or a k false ≡ true → get_or (slice_set a i true) k false ≡ true
set_keeps [] i k e = e
set_keeps (x ∷ xs) zero zero e = refl
set_keeps (x ∷ xs) zero (suc k) e = e
set_keeps (x ∷ xs) (suc i) zero e = e
set_keeps (x ∷ xs) (suc i) (suc k) e = set_keeps xs i k e

pub set_here : (a : List Bool) (i : ℕ) → i < length a → get_or (slice_set a i true) i false ≡ true
set_here [] i lt = absurd (omega arith)
set_here (x ∷ xs) zero lt = refl
set_here (x ∷ xs) (suc i) lt = set_here xs i (omega arith)

pub none_true : (n k : ℕ) → get_or (replicate n false) k false ≡ true → ⊥
none_true zero k e = cc
none_true (suc n) zero e = cc
none_true (suc n) (suc k) e = none_true n k e

-- a literal that isn't assigned may be made true
pub proper_set : (on : List Bool) (l : ℕ) → IsProper on → is_true on (opposite l) ≡ false → IsProper (slice_set on l true)
proper_set on l p free = record {
  both = λ k t u. elim (set_is on l k t) [
    | inl s ↦ elim (set_is on l (opposite k) u) [
      | inl r ↦ opposite_other l (rw s at r)
      | inr h ↦ no_ (is_true on (opposite l)) (rw s at h) free
    ]
    | inr g ↦ elim (set_is on l (opposite k) u) [
      | inl r ↦ let same : k ≡ opposite l = sym (opposite_twice k) ∙ ap opposite r in no_ (is_true on (opposite l)) (rw same at g) free
      | inr h ↦ p.both k g h
    ]
  ];
}
  where
    no_ : (b : Bool) → b ≡ true → b ≡ false → ⊥
    no_ b t f = cc

pub proper_none : (n : ℕ) → IsProper (replicate n false)
proper_none n = record { both = λ k t u. none_true n k t }
