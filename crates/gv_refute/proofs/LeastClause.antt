-- The clause that says of an input that it is least.
use Rattle.std.proofs.Common.{◌≡◌, ℕ, ◌*◌, Bool, true, false, List, [], ◌∷◌, ◌++◌, length, get_or, take, refl, sym, ap, ◌∙◌, length-append, arith}
use Rattle.std.specs.Prelude.{MatchBool}
use Rattle.gv_logic.specs.Logs.{set_clause, offs, least_set}

set_end : (xs : List ℕ) (i : ℕ) → set_clause (xs ++ i ∷ []) ≡ set_clause xs ++ 2 * i ∷ []
set_end [] i = refl
set_end (x ∷ xs) i = ap (λ ys. 2 * x ∷ ys) (set_end xs i)

ends_same : (xs ys : List ℕ) (x y : ℕ) → xs ++ x ∷ [] ≡ ys ++ y ∷ [] → (xs ≡ ys) × (x ≡ y)
ends_same [] [] x y e = (refl, ap (λ zs. get_or zs 0 0) e)
ends_same [] (b ∷ ys) x y e = absurd (omega (arith, ap length e, length-append ys (y ∷ [])))
ends_same (a ∷ xs) [] x y e = absurd (omega (arith, ap length e, length-append xs (x ∷ [])))
ends_same (a ∷ xs) (b ∷ ys) x y e =
    let heads : a ≡ b = ap (λ zs. get_or zs 0 0) e in
    let rest = ends_same xs ys x y (tail (a ∷ xs ++ x ∷ []) (b ∷ ys ++ y ∷ []) e) in
    (rw (heads, rest.0) refl, rest.1)
  where
    cut : List ℕ → List ℕ
    cut [] = []
    cut (z ∷ zs) = zs

    tail : (as_ bs : List ℕ) → as_ ≡ bs → cut as_ ≡ cut bs
    tail as_ bs e = ap cut e

module _ (lits : List ℕ) (bits : List Bool) (i : ℕ) where
  clause_end : set_clause (least_set bits i) ≡ set_clause (offs 0 (take i bits)) ++ 2 * i ∷ []
  clause_end = set_end (offs 0 (take i bits)) i

  pub not_empty : length lits ≡ 0 → lits ≡ set_clause (least_set bits i) → ⊥
  not_empty n e = absurd (omega (arith, n, ap length e, ap length clause_end, length-append (set_clause (offs 0 (take i bits))) (2 * i ∷ [])))

  module _ (front : List ℕ) (last : ℕ) (parts : lits ≡ front ++ last ∷ []) where
    same : lits ≡ set_clause (least_set bits i) → (front ≡ set_clause (offs 0 (take i bits))) × (last ≡ 2 * i)
    same e = ends_same front (set_clause (offs 0 (take i bits))) last (2 * i) (sym parts ∙ e ∙ clause_end)

    pub other_last : (last ≡ 2 * i → ⊥) → lits ≡ set_clause (least_set bits i) → ⊥
    other_last no_ e = no_ (same e).1

    pub by_front : (b : Bool) → last ≡ 2 * i → MatchBool b (front ≡ set_clause (offs 0 (take i bits))) (front ≡ set_clause (offs 0 (take i bits)) → ⊥)
        → MatchBool b (lits ≡ set_clause (least_set bits i)) (lits ≡ set_clause (least_set bits i) → ⊥)
    by_front true e m = parts ∙ (rw (m, e, clause_end) refl)
    by_front false e m = λ h. m (same h).0
