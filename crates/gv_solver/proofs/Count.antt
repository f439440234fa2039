-- A list of sets of k numbers, none of which contains an earlier one, has at most 2 ^ k members.
-- The empty set could be put behind the kept ones (`apart_end`), so where N sets are kept, 2 ^ k is more than N
-- (`kept_few`).
use Rattle.std.proofs.Common.{◌≡◌, inl, inr, ℕ, zero, suc, ◌+◌, ◌^◌, ◌<◌, ◌≤◌, Bool, true, false, cond, nat_eq, List, [], ◌∷◌, ◌++◌, length, refl, subst, length-append, arith}
use Rattle.std.specs.List.{AllByRecursion}
use Rattle.std.proofs.lemmas.Grind.{common_steps}
use Rattle.gv_logic.specs.Circuits.{Circuit}
use Rattle.gv_logic.specs.Encoding.{all_clauses}
use Rattle.gv_logic.specs.Kept.{IsWithin, IsRising, AreApart, AreKept}
use Rattle.gv_solver.specs.Laws.{KeptBoundLaw}
use Rattle.gv_solver.specs.Work.{AreNewSets}
use Rattle.gv_logic.specs.Logs.{HasList}
use Rattle.gv_solver.proofs.Lessons.{has_last}
use Rattle.gv_solver.proofs.Starts.{rising_le}

-- the sets that begin with b, without it; and the others
abbrev firsts : ℕ → List (List ℕ) → List (List ℕ)
firsts b [] = []
firsts b ([] ∷ ss) = firsts b ss
firsts b ((i ∷ is) ∷ ss) = cond (nat_eq i b) (is ∷ firsts b ss) (firsts b ss)

abbrev others : ℕ → List (List ℕ) → List (List ℕ)
others b [] = []
others b ([] ∷ ss) = [] ∷ others b ss
others b ((i ∷ is) ∷ ss) = cond (nat_eq i b) (others b ss) ((i ∷ is) ∷ others b ss)

equal : (i b : ℕ) → nat_eq i b ≡ true → i ≡ b
equal i b e = grind (arith, common_steps)

above : (i b : ℕ) → nat_eq i b ≡ false → b ≤ i → b + 1 ≤ i
above i b e le = grind (arith, common_steps)

split_long : (b : ℕ) (ss : List (List ℕ)) → length (firsts b ss) + length (others b ss) ≡ length ss
split_long b [] = omega arith
split_long b ([] ∷ ss) = let h = split_long b ss in omega (arith, h)
split_long b ((i ∷ is) ∷ ss) = by (nat_eq i b) (split_long b ss)
  where
    by : (v : Bool) → length (firsts b ss) + length (others b ss) ≡ length ss → length (cond v (is ∷ firsts b ss) (firsts b ss)) + length (cond v (others b ss) ((i ∷ is) ∷ others b ss)) ≡ suc (length ss)
    by true h = omega (arith, h)
    by false h = omega (arith, h)

within_more : (xs ys : List ℕ) (b : ℕ) → IsWithin xs ys → IsWithin xs (b ∷ ys)
within_more [] ys b w = tt
within_more (x ∷ xs) ys b w = (inr w.0, within_more xs ys b w.1)

firsts_apart : (b : ℕ) (s : List ℕ) (ss : List (List ℕ)) → AllByRecursion (λ t. IsWithin (b ∷ s) t → ⊥) ss → AllByRecursion (λ t. IsWithin s t → ⊥) (firsts b ss)
firsts_apart b s [] a = tt
firsts_apart b s ([] ∷ ss) a = firsts_apart b s ss a.1
firsts_apart b s ((i ∷ is) ∷ ss) a = by (nat_eq i b) refl (firsts_apart b s ss a.1)
  where
    by : (v : Bool) → nat_eq i b ≡ v → AllByRecursion (λ t. IsWithin s t → ⊥) (firsts b ss) → AllByRecursion (λ t. IsWithin s t → ⊥) (cond v (is ∷ firsts b ss) (firsts b ss))
    by true e h = (λ w. a.0 (inl (equal i b e), within_more s is i w), h)
    by false e h = h

others_apart : (b : ℕ) (s : List ℕ) (ss : List (List ℕ)) → AllByRecursion (λ t. IsWithin s t → ⊥) ss → AllByRecursion (λ t. IsWithin s t → ⊥) (others b ss)
others_apart b s [] a = tt
others_apart b s ([] ∷ ss) a = (a.0, others_apart b s ss a.1)
others_apart b s ((i ∷ is) ∷ ss) a = by (nat_eq i b) (others_apart b s ss a.1)
  where
    by : (v : Bool) → AllByRecursion (λ t. IsWithin s t → ⊥) (others b ss) → AllByRecursion (λ t. IsWithin s t → ⊥) (cond v (others b ss) ((i ∷ is) ∷ others b ss))
    by true h = h
    by false h = (a.0, h)

apart_firsts : (b : ℕ) (ss : List (List ℕ)) → AreApart ss → AreApart (firsts b ss)
apart_firsts b [] a = tt
apart_firsts b ([] ∷ ss) a = apart_firsts b ss a.1
apart_firsts b ((i ∷ is) ∷ ss) a = by (nat_eq i b) refl (apart_firsts b ss a.1)
  where
    by : (v : Bool) → nat_eq i b ≡ v → AreApart (firsts b ss) → AreApart (cond v (is ∷ firsts b ss) (firsts b ss))
    by true e h = (firsts_apart b is ss (subst (λ j. AllByRecursion (λ t. IsWithin (j ∷ is) t → ⊥) ss) (equal i b e) a.0), h)
    by false e h = h

apart_others : (b : ℕ) (ss : List (List ℕ)) → AreApart ss → AreApart (others b ss)
apart_others b [] a = tt
apart_others b ([] ∷ ss) a = (others_apart b [] ss a.0, apart_others b ss a.1)
apart_others b ((i ∷ is) ∷ ss) a = by (nat_eq i b) (others_apart b (i ∷ is) ss a.0) (apart_others b ss a.1)
  where
    by : (v : Bool) → AllByRecursion (λ t. IsWithin (i ∷ is) t → ⊥) (others b ss) → AreApart (others b ss) → AreApart (cond v (others b ss) ((i ∷ is) ∷ others b ss))
    by true g h = h
    by false g h = (g, h)

rising_firsts : (b t : ℕ) (ss : List (List ℕ)) → AllByRecursion (IsRising b t) ss → AllByRecursion (IsRising (b + 1) t) (firsts b ss)
rising_firsts b t [] a = tt
rising_firsts b t ([] ∷ ss) a = rising_firsts b t ss a.1
rising_firsts b t ((i ∷ is) ∷ ss) a = by (nat_eq i b) refl (rising_firsts b t ss a.1)
  where
    by : (v : Bool) → nat_eq i b ≡ v → AllByRecursion (IsRising (b + 1) t) (firsts b ss) → AllByRecursion (IsRising (b + 1) t) (cond v (is ∷ firsts b ss) (firsts b ss))
    by true e h = (subst (λ j. IsRising (j + 1) t is) (equal i b e) a.0.1, h)
    by false e h = h

rising_others : (b t : ℕ) (ss : List (List ℕ)) → b + 1 ≤ t → AllByRecursion (IsRising b t) ss → AllByRecursion (IsRising (b + 1) t) (others b ss)
rising_others b t [] le a = tt
rising_others b t ([] ∷ ss) le a = (le, rising_others b t ss le a.1)
rising_others b t ((i ∷ is) ∷ ss) le a = by (nat_eq i b) refl (rising_others b t ss le a.1)
  where
    by : (v : Bool) → nat_eq i b ≡ v → AllByRecursion (IsRising (b + 1) t) (others b ss) → AllByRecursion (IsRising (b + 1) t) (cond v (others b ss) ((i ∷ is) ∷ others b ss))
    by true e h = h
    by false e h = ((above i b e a.0.0, a.0.1), h)

only_empty : (b : ℕ) (ss : List (List ℕ)) → AllByRecursion (IsRising b b) ss → AreApart ss → length ss ≤ 1
only_empty b [] r a = omega arith
only_empty b (s ∷ []) r a = omega arith
only_empty b ([] ∷ u ∷ ss) r a = absurd (a.0.0 tt)
only_empty b ((i ∷ is) ∷ u ∷ ss) r a = let top = rising_le (i + 1) b is r.0.1 in absurd (omega (arith, top, r.0.0))

double : (n : ℕ) → 2 ^ (suc n) ≡ 2 ^ n + 2 ^ n
double n = omega arith

-- the bound
pub count_apart : (n b : ℕ) (ss : List (List ℕ)) → AllByRecursion (IsRising b (b + n)) ss → AreApart ss → length ss ≤ 2 ^ n
count_apart zero b ss r a = only_empty b ss (subst (λ t. AllByRecursion (IsRising b t) ss) (omega arith) r) a
count_apart (suc n) b ss r a =
    let t : b + suc n ≡ b + 1 + n = omega arith in
    let r' : AllByRecursion (IsRising b (b + 1 + n)) ss = subst (λ k. AllByRecursion (IsRising b k) ss) t r in
    let f = count_apart n (b + 1) (firsts b ss) (rising_firsts b (b + 1 + n) ss r') (apart_firsts b ss a) in
    let o = count_apart n (b + 1) (others b ss) (rising_others b (b + 1 + n) ss (omega arith) r') (apart_others b ss a) in
    let s = split_long b ss in
    let d = double n in
    omega (arith, f, o, s, d)

all_has : (s : List ℕ) (P : List ℕ → Type 0) (es : List (List ℕ)) → AllByRecursion P es → HasList s es → P s
all_has s P [] a h = absurd h
all_has s P (x ∷ xs) a h = elim h [ inl q ↦ subst P q a.0 | inr g ↦ all_has s P xs a.1 g ]

has_more : (s : List ℕ) (es : List (List ℕ)) (x : List ℕ) → HasList s es → HasList s (es ++ x ∷ [])
has_more s [] x h = absurd h
has_more s (e ∷ es) x h = elim h [ inl q ↦ inl q | inr g ↦ inr (has_more s es x g) ]

later_apart : (cs earlier ss : List (List ℕ)) (s : List ℕ) → HasList s earlier → AreNewSets cs earlier ss → AllByRecursion (λ t. IsWithin s t → ⊥) ss
later_apart cs earlier [] s h k = tt
later_apart cs earlier (x ∷ xs) s h k = (all_has s (λ o. IsWithin o x → ⊥) earlier k.0.apart h, later_apart cs (earlier ++ x ∷ []) xs s (has_more s earlier x h) k.1)

all_end : (s : List ℕ) (ss : List (List ℕ)) → AllByRecursion (λ t. IsWithin s t → ⊥) ss → (IsWithin s [] → ⊥) → AllByRecursion (λ t. IsWithin s t → ⊥) (ss ++ [] ∷ [])
all_end s [] a f = (f, tt)
all_end s (x ∷ xs) a f = (a.0, all_end s xs a.1 f)

not_in_none : (s : List ℕ) → 0 < length s → IsWithin s [] → ⊥
not_in_none [] lt w = absurd (omega (arith, lt))
not_in_none (x ∷ xs) lt w = w.0

-- kept sets, and the empty one behind them
apart_end : (cs earlier ss : List (List ℕ)) → AreNewSets cs earlier ss → AreApart (ss ++ [] ∷ [])
apart_end cs earlier [] k = (tt, tt)
apart_end cs earlier (s ∷ ss) k =
    (all_end s ss (later_apart cs (earlier ++ s ∷ []) ss s (has_last s earlier) k.1) (not_in_none s k.0.some), apart_end cs (earlier ++ s ∷ []) ss k.1)

rising_end : (n : ℕ) (ss : List (List ℕ)) → AllByRecursion (IsRising 0 n) ss → AllByRecursion (IsRising 0 n) (ss ++ [] ∷ [])
rising_end n [] a = (omega arith, tt)
rising_end n (s ∷ ss) a = (a.0, rising_end n ss a.1)

zero-plus : (n : ℕ) → n ≡ 0 + n
zero-plus n = omega arith

pub kept_bound : KeptBoundLaw
kept_bound k sets r a = count_apart k 0 sets (subst (λ t. AllByRecursion (IsRising 0 t) sets) (zero-plus k) r) a

-- so there are fewer kept sets than 2 ^ n
pub kept_few : (n : ℕ) (cs ss : List (List ℕ)) → AllByRecursion (IsRising 0 n) ss → AreNewSets cs [] ss → length ss < 2 ^ n
kept_few n cs ss r k =
    let c = kept_bound n (ss ++ [] ∷ []) (rising_end n ss r) (apart_end cs [] ss k) in
    let l = length-append ss ([] ∷ []) in
    omega (arith, c, l)

kept_rising : (g : Circuit) (earlier sets : List (List ℕ)) → AreKept g earlier sets → AllByRecursion (IsRising 0 g.inputs) sets
kept_rising g earlier [] k = tt
kept_rising g earlier (x ∷ xs) k = (k.0.rising, kept_rising g (earlier ++ x ∷ []) xs k.1)

kept_new : (g : Circuit) (earlier sets : List (List ℕ)) → AreKept g earlier sets → AreNewSets (all_clauses g) earlier sets
kept_new g earlier [] k = tt
kept_new g earlier (x ∷ xs) k = (record { some = k.0.some; apart = k.0.apart; tight = k.0.tight }, kept_new g (earlier ++ x ∷ []) xs k.1)

pub kept_fewer : (g : Circuit) (sets : List (List ℕ)) → AreKept g [] sets → length sets < 2 ^ g.inputs
kept_fewer g sets k = kept_few g.inputs (all_clauses g) sets (kept_rising g [] sets k) (kept_new g [] sets k)
