-- Bits that aren't lesser, and steps that leave no lesser ones.
use Rattle.std.proofs.Common.{◌≡◌, ◌↔◌, ◌⊎◌, inl, inr, ℕ, zero, suc, ◌+◌, ◌*◌, ◌/◌, ◌%◌, ◌<◌, Bool, true, false, ◌||◌, List, [], ◌∷◌, ◌++◌, length, get_or, take, refl, sym, subst, ◌∙◌, arith}
use Rattle.gv_logic.specs.Literals.{lit_true, clause_true, AllTrue}
use Rattle.gv_logic.specs.Logs.{Step, step_clauses, set_clause, offs, least_set, ProvesLeast}
use Rattle.gv_base.specs.Least.{Lesser}
use Rattle.gv_refute.specs.Reached.{Reaches}
use Rattle.gv_refute.proofs.Truths.{has_true}

-- what `Reaches` says of one input
abbrev Reach : List Bool → List Bool → ℕ → Type 0
Reach bits other i =
    (get_or other i false ≡ true) ⊎ ((j : ℕ) × (j < i) × (get_or bits j true ≡ false) × (get_or other j false ≡ true))

clash : (b : Bool) → b ≡ true → b ≡ false → ⊥
clash b t f = cc

-- where the first bits are equal, the rest decides
reach_later : (b : Bool) (bs os : List Bool) (i : ℕ) → Reach bs os i → Reach (b ∷ bs) (b ∷ os) (suc i)
reach_later b bs os i r = elim r [ inl t ↦ inl t | inr p ↦ inr (suc p.0, omega (arith, p.1), p.2, p.3) ]

reaches : (bits other : List Bool) → length other ≡ length bits → (Lesser other bits → ⊥) → (i : ℕ) → get_or bits i false ≡ true → Reach bits other i
reaches [] other n no_ i e = cc
reaches (b ∷ bs) [] n no_ i e = absurd (omega (arith, n))
reaches (true ∷ bs) (true ∷ os) n no_ zero e = inl refl
reaches (true ∷ bs) (true ∷ os) n no_ (suc i) e = reach_later true bs os i (reaches bs os (omega (arith, n)) (λ l. no_ (inr (refl, l))) i e)
reaches (true ∷ bs) (false ∷ os) n no_ i e = absurd (no_ (inl (refl, refl)))
reaches (false ∷ bs) (true ∷ os) n no_ zero e = cc
reaches (false ∷ bs) (true ∷ os) n no_ (suc i) e = inr (0, omega arith, refl, refl)
reaches (false ∷ bs) (false ∷ os) n no_ zero e = cc
reaches (false ∷ bs) (false ∷ os) n no_ (suc i) e = reach_later false bs os i (reaches bs os (omega (arith, n)) (λ l. no_ (inr (refl, l))) i e)

-- what is reached is reached without the first bits, where these are equal
reach_sooner : (b : Bool) (bs os : List Bool) (i : ℕ) → Reach (b ∷ bs) (b ∷ os) (suc i) → Reach bs os i
reach_sooner b bs os i r = elim r [ inl t ↦ inl t | inr p ↦ by p.0 p.1 p.2 p.3 ]
  where
    by : (j : ℕ) → j < suc i → get_or (b ∷ bs) j true ≡ false → get_or (b ∷ os) j false ≡ true → Reach bs os i
    by zero lt f t = absurd (clash b t f)
    by (suc j) lt f t = inr (j, omega (arith, lt), f, t)

not_lesser : (bits other : List Bool) → ((i : ℕ) → get_or bits i false ≡ true → Reach bits other i) → Lesser other bits → ⊥
not_lesser [] [] r l = l
not_lesser [] (o ∷ os) r l = l
not_lesser (b ∷ bs) [] r l = l
not_lesser (b ∷ bs) (o ∷ os) r l = elim l [
  | inl p ↦ elim (r 0 p.1) [ inl t ↦ clash o t p.0 | inr q ↦ absurd (omega (arith, q.1)) ]
  | inr p ↦ not_lesser bs os (λ i e. reach_sooner b bs os i (subst (λ z. Reach (b ∷ bs) (z ∷ os) (suc i)) p.0 (r (suc i) e))) p.1
]

pub lesser : (bits other : List Bool) → length other ≡ length bits → ((Lesser other bits → ⊥) ↔ Reaches bits other)
lesser bits other n = (reaches bits other n, not_lesser bits other)

even_lit : (v : ℕ → Bool) (i : ℕ) → lit_true v (2 * i) ≡ v i
even_lit v i = let r : (2 * i) % 2 ≡ 0 = omega arith in let d : (2 * i) / 2 ≡ i = omega arith in rw (r, d) refl

either : (a b : Bool) → (a || b) ≡ true → (a ≡ true) ⊎ (b ≡ true)
either true b e = inl refl
either false b e = inr e

-- some member of a set whose clause is true is on
Member : (ℕ → Bool) → List Bool → ℕ → ℕ → Type 0
Member v bs p i = (v i ≡ true) ⊎ ((j : ℕ) × (j < length bs) × (get_or bs j true ≡ false) × (v (p + j) ≡ true))

member_on : (v : ℕ → Bool) (bs : List Bool) (p i : ℕ) → clause_true v (set_clause (offs p bs ++ i ∷ [])) ≡ true → Member v bs p i
unfolding Member
member_on v [] p i e = elim (either (lit_true v (2 * i)) false e) [ inl t ↦ inl (sym (even_lit v i) ∙ t) | inr t ↦ cc ]
member_on v (true ∷ bs) p i e = later (member_on v bs (p + 1) i e)
  where
    later : (v i ≡ true) ⊎ ((j : ℕ) × (j < length bs) × (get_or bs j true ≡ false) × (v (p + 1 + j) ≡ true))
        → (v i ≡ true) ⊎ ((j : ℕ) × (j < length (true ∷ bs)) × (get_or (true ∷ bs) j true ≡ false) × (v (p + j) ≡ true))
    later m = elim m [ inl t ↦ inl t | inr q ↦ (let z : p + 1 + q.0 ≡ p + suc q.0 = omega arith in inr (suc q.0, omega (arith, q.1), q.2, rw z at q.3)) ]
member_on v (false ∷ bs) p i e = elim (either (lit_true v (2 * p)) (clause_true v (set_clause (offs (p + 1) bs ++ i ∷ []))) e) [
  | inl t ↦ (let z : p ≡ p + 0 = omega arith in inr (0, omega arith, refl, rw z at (sym (even_lit v p) ∙ t)))
  | inr t ↦ later (member_on v bs (p + 1) i t)
]
  where
    later : (v i ≡ true) ⊎ ((j : ℕ) × (j < length bs) × (get_or bs j true ≡ false) × (v (p + 1 + j) ≡ true))
        → (v i ≡ true) ⊎ ((j : ℕ) × (j < length (false ∷ bs)) × (get_or (false ∷ bs) j true ≡ false) × (v (p + j) ≡ true))
    later m = elim m [ inl t ↦ inl t | inr q ↦ (let z : p + 1 + q.0 ≡ p + suc q.0 = omega arith in inr (suc q.0, omega (arith, q.1), q.2, rw z at q.3)) ]

on_below : (bits : List Bool) (i : ℕ) → get_or bits i false ≡ true → i < length bits
on_below [] i e = cc
on_below (b ∷ bs) zero e = omega arith
on_below (b ∷ bs) (suc i) e = omega (arith, on_below bs i e)

take_long : (bits : List Bool) (i : ℕ) → i < length bits → length (take i bits) ≡ i
take_long [] i lt = absurd (omega (arith, lt))
take_long (b ∷ bs) zero lt = refl
take_long (b ∷ bs) (suc i) lt = omega (arith, take_long bs i (omega (arith, lt)))

take_at : (bits : List Bool) (i j : ℕ) → j < i → i < length bits → get_or (take i bits) j true ≡ get_or bits j true
take_at [] i j lt le = absurd (omega (arith, le))
take_at (b ∷ bs) zero j lt le = absurd (omega (arith, lt))
take_at (b ∷ bs) (suc i) zero lt le = refl
take_at (b ∷ bs) (suc i) (suc j) lt le = take_at bs i j (omega (arith, lt)) (omega (arith, le))

-- the steps of least bits are true at no lesser ones
pub none_lesser : (v : ℕ → Bool) (log : List Step) (bits other : List Bool) → AllTrue v (step_clauses log) → ProvesLeast log bits
    → ((i : ℕ) → i < length bits → v i ≡ get_or other i false) → Lesser other bits → ⊥
unfolding Member
none_lesser v log bits other all proves same = not_lesser bits other reach
  where
    reach : (i : ℕ) → get_or bits i false ≡ true → Reach bits other i
    reach i e =
        let lt = on_below bits i e in
        let step = has_true v (set_clause (least_set bits i)) (step_clauses log) all (proves i lt e) in
        elim (member_on v (take i bits) 0 i step) [
          | inl t ↦ inl (sym (same i lt) ∙ t)
          | inr q ↦
              let below : q.0 < i = omega (arith, q.1, take_long bits i lt) in
              let z : 0 + q.0 ≡ q.0 = omega arith in
              let on : v q.0 ≡ true = rw z at q.3 in
              inr (q.0, below, sym (take_at bits i q.0 below lt) ∙ q.2, sym (same q.0 (omega (arith, below, lt))) ∙ on)
        ]
