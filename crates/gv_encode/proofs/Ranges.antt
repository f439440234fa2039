-- The literals of the clauses are of the places.
use Rattle.std.proofs.Common.{◌≡◌, ℕ, suc, zero, ◌*◌, ◌<◌, ◌≤◌, List, [], ◌∷◌, map, take, arith}
use Rattle.std.specs.List.{AllByRecursion}
use Rattle.gv_logic.specs.Literals.{opposite}
use Rattle.gv_logic.specs.Opposites.{opposite_below}

pub named_more : (p q : ℕ) (ls : List ℕ) → p ≤ q → AllByRecursion (λ l. l < 2 * p) ls → AllByRecursion (λ l. l < 2 * q) ls
named_more p q [] le a = tt
named_more p q (l ∷ ls) le a = (omega (arith, a.0), named_more p q ls le a.1)

pub named_opposites : (p q : ℕ) (ls : List ℕ) → p ≤ q → AllByRecursion (λ l. l < 2 * p) ls → AllByRecursion (λ l. l < 2 * q) (map opposite ls)
named_opposites p q [] le a = tt
named_opposites p q (l ∷ ls) le a = (opposite_below q l (omega (arith, a.0)), named_opposites p q ls le a.1)

pub named_same : (p q r : ℕ) (ls : List ℕ) → r ≡ q → p < q → AllByRecursion (λ l. l < 2 * p) ls → AllByRecursion (λ l. l < 2 * r) ls
named_same p q r ls c le h = rw c (named_more p q ls (omega (arith, le)) h)

named_taken : (n q : ℕ) (ls : List ℕ) → AllByRecursion (λ l. l < 2 * q) ls → AllByRecursion (λ l. l < 2 * q) (take n ls)
named_taken zero q ls a = tt
named_taken (suc n) q [] a = tt
named_taken (suc n) q (l ∷ ls) a = (a.0, named_taken n q ls a.1)

-- a literal and the opposites of some
pub turned_named : (q first n : ℕ) (ls turned items : List ℕ) → items ≡ turned → turned ≡ first ∷ map opposite (take n ls)
    → first < 2 * q → AllByRecursion (λ l. l < 2 * q) ls → AllByRecursion (λ l. l < 2 * q) items
turned_named q first n ls turned items a b f h = rw (a, b) (f, named_opposites q q (take n ls) (omega arith) (named_taken n q ls h))
