-- Sets with a member left out.
-- An open set stays open when members are taken away, so in the end each member is needed (`tight_less`, `tight_more`).
use Rattle.std.proofs.Common.{◌≡◌, inl, inr, ℕ, zero, suc, ◌+◌, ◌^◌, ◌<◌, ◌≤◌, Bool, List, [], ◌∷◌, length, get_or, refl, ap, ◌∙◌, arith}
use Rattle.std.specs.List.{AllByRecursion, remove, insert}
use Rattle.std.proofs.lemmas.Bool.{cases_lt}
use Rattle.gv_logic.specs.Kept.{IsRising, AllOff, IsOpen}
use Rattle.gv_logic.specs.Partial.{Has}
use Rattle.gv_solver.proofs.Derive.{has_off}
use Rattle.gv_solver.proofs.Starts.{rising_le}

pub put_back : (xs : List ℕ) (i d : ℕ) → i < length xs → insert (remove xs i) i (get_or xs i d) ≡ xs
put_back [] i d lt = absurd (omega arith)
put_back (x ∷ xs) zero d lt = refl
put_back (x ∷ xs) (suc i) d lt = ap (λ ys. x ∷ ys) (put_back xs i d (omega arith))

pub put_back_as : (xs ys zs : List ℕ) (i m : ℕ) → i < length xs → ys ≡ remove xs i → m ≡ get_or xs i m → zs ≡ insert ys i m → zs ≡ xs
put_back_as xs ys zs i m lt e v f = f ∙ ap (λ ws. insert ws i m) e ∙ ap (λ n. insert (remove xs i) i n) v ∙ put_back xs i m lt

pub has_remove : (xs : List ℕ) (i m : ℕ) → Has m (remove xs i) → Has m xs
has_remove [] zero m h = h
has_remove [] (suc i) m h = h
has_remove (x ∷ xs) zero m h = inr h
has_remove (x ∷ xs) (suc i) m h = elim h [ inl s ↦ inl s | inr g ↦ inr (has_remove xs i m g) ]

pub has_twice : (xs : List ℕ) (i j m : ℕ) → j < i → Has m (remove (remove xs i) j) → Has m (remove xs j)
has_twice xs zero j m lt h = absurd (omega arith)
has_twice [] (suc i) zero m lt h = h
has_twice [] (suc i) (suc j) m lt h = h
has_twice (x ∷ xs) (suc i) zero m lt h = has_remove xs i m h
has_twice (x ∷ xs) (suc i) (suc j) m lt h = elim h [ inl s ↦ inl s | inr g ↦ inr (has_twice xs i j m (omega arith) g) ]

pub rising_from : (a b t : ℕ) (xs : List ℕ) → b ≤ a → IsRising a t xs → IsRising b t xs
rising_from a b t [] le r = omega (arith, le, r)
rising_from a b t (x ∷ xs) le r = (omega (arith, le, r.0), r.1)

pub rising_remove : (b t : ℕ) (xs : List ℕ) (i : ℕ) → IsRising b t xs → IsRising b t (remove xs i)
rising_remove b t [] zero r = r
rising_remove b t [] (suc i) r = r
rising_remove b t (x ∷ xs) zero r = rising_from (x + 1) b t xs (omega (arith, r.0)) r.1
rising_remove b t (x ∷ xs) (suc i) r = (r.0, rising_remove (x + 1) t xs i r.1)

pub range_remove : (n : ℕ) (xs : List ℕ) (i : ℕ) → AllByRecursion (λ m. m < n) xs → AllByRecursion (λ m. m < n) (remove xs i)
range_remove n [] zero r = r
range_remove n [] (suc i) r = r
range_remove n (x ∷ xs) zero r = r.1
range_remove n (x ∷ xs) (suc i) r = (r.0, range_remove n xs i r.1)

off_all : (on : List Bool) (xs ys : List ℕ) → AllOff on xs → ((m : ℕ) → Has m ys → Has m xs) → AllOff on ys
off_all on xs [] a f = tt
off_all on xs (y ∷ ys) a f = (has_off on xs y a (f y (inl refl)), off_all on xs ys a (λ m h. f m (inr h)))

-- an open set stays open when members are taken away
pub open_less : (cs : List (List ℕ)) (xs ys : List ℕ) → IsOpen xs cs → ((m : ℕ) → Has m ys → Has m xs) → IsOpen ys cs
open_less cs xs ys o f = record { on = o.on; proper = o.proper; off = off_all o.on xs ys o.off f; quiet = o.quiet }

-- the members before a place are needed still when that of the place goes
pub tight_less : (cs : List (List ℕ)) (xs : List ℕ) (i : ℕ) → ((j : ℕ) → j < i → IsOpen (remove xs j) cs) → (j : ℕ) → j < i → IsOpen (remove (remove xs i) j) cs
tight_less cs xs i f j lt = open_less cs (remove xs j) (remove (remove xs i) j) (f j lt) (λ m h. has_twice xs i j m lt h)

-- one more member is needed
pub tight_more : (cs : List (List ℕ)) (xs : List ℕ) (i : ℕ) → ((j : ℕ) → j < i → IsOpen (remove xs j) cs) → IsOpen (remove xs i) cs → (j : ℕ) → j < i + 1 → IsOpen (remove xs j) cs
tight_more cs xs i f o j lt = elim (cases_lt j i) [ inl l ↦ f j l | inr g ↦ let same : j ≡ i = omega (arith, g, lt) in rw same o ]

pub rising_range : (b t n : ℕ) (xs : List ℕ) → IsRising b t xs → t ≤ n → AllByRecursion (λ m. m < n) xs
rising_range b t n [] r le = tt
rising_range b t n (x ∷ xs) r le = let top = rising_le (x + 1) t xs r.1 in (omega (arith, top, le), rising_range (x + 1) t n xs r.1 le)

pub rising_small : (b t : ℕ) (xs : List ℕ) → IsRising b t xs → t ≤ 2 ^ 31 → AllByRecursion (λ m. m < 2 ^ 31) xs
rising_small b t [] r le = tt
rising_small b t (x ∷ xs) r le = let top = rising_le (x + 1) t xs r.1 in (omega (arith, top, le), rising_small (x + 1) t xs r.1 le)

pub rising_length : (b t : ℕ) (xs : List ℕ) → IsRising b t xs → length xs + b ≤ t
rising_length b t [] r = omega (arith, r)
rising_length b t (x ∷ xs) r = let h = rising_length (x + 1) t xs r.1 in omega (arith, h, r.0)
