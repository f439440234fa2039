-- Marks of the literals that are true.
-- There is room for every literal from the beginning: there are fewer entries than literals as long as one isn't true
-- (`fresh_room`), so the push of a literal always succeeds, and nothing is to be said of memory where literals are
-- assigned.
use Rattle.std.proofs.Common.{◌≡◌, ℕ, zero, suc, ◌+◌, ◌<◌, ◌≤◌, Bool, true, false, List, [], ◌∷◌, ◌++◌, length, get_or, refl, ap, ◌∙◌, cond, nat_le, arith}
use Rattle.std.proofs.lemmas.List.{length-replicate}
use Rattle.std.specs.Prelude.{slice_set, replicate}
use Rattle.std.proofs.Math.ListN.{length-set}
use Rattle.gv_logic.specs.Literals.{opposite}
use Rattle.gv_logic.specs.Partial.{is_true, trues}
use Rattle.gv_trail.specs.Entries.{Entry, made_true, front_to}
use Rattle.gv_trail.specs.Marks.{AreFresh}
use Rattle.gv_trail.proofs.Proper.{set_back}

pub made_true-append : (on : List Bool) (es : List Entry) (e : Entry) → made_true on (es ++ e ∷ []) ≡ slice_set (made_true on es) e.lit true
made_true-append on [] e = refl
made_true-append on (x ∷ xs) e = made_true-append (slice_set on x.lit true) xs e

pub made_true-cat : (on : List Bool) (es fs : List Entry) → made_true on (es ++ fs) ≡ made_true (made_true on es) fs
made_true-cat on [] fs = refl
made_true-cat on (x ∷ xs) fs = made_true-cat (slice_set on x.lit true) xs fs

pub length-made_true : (on : List Bool) (es : List Entry) → length (made_true on es) ≡ length on
length-made_true on [] = refl
length-made_true on (e ∷ es) = length-made_true (slice_set on e.lit true) es ∙ simp length-set

pub long : (n : ℕ) (es : List Entry) → length (made_true (replicate n false) es) ≡ n
long n es = length-made_true (replicate n false) es ∙ length-replicate n false

pub trues_set : (on : List Bool) (i : ℕ) → i < length on → get_or on i false ≡ false → trues (slice_set on i true) ≡ trues on + 1
trues_set [] i lt e = absurd (omega arith)
trues_set (true ∷ bs) zero lt e = cc
trues_set (false ∷ bs) zero lt e = refl
trues_set (true ∷ bs) (suc i) lt e = let h = trues_set bs i (omega arith) e in omega arith
trues_set (false ∷ bs) (suc i) lt e = trues_set bs i (omega arith) e

pub trues-le : (on : List Bool) → trues on ≤ length on
trues-le [] = omega arith
trues-le (true ∷ bs) = omega (arith, trues-le bs)
trues-le (false ∷ bs) = omega (arith, trues-le bs)

pub trues_replicate : (n : ℕ) → trues (replicate n false) ≡ 0
trues_replicate zero = refl
trues_replicate (suc n) = trues_replicate n

counted : (on : List Bool) (es : List Entry) → AreFresh on es → trues (made_true on es) ≡ trues on + length es
counted on [] f = omega arith
counted on (e ∷ es) f = omega (arith, counted (slice_set on e.lit true) es f.3, trues_set on e.lit f.0 f.1)

-- there are no more entries than literals
pub fresh_few : (n : ℕ) (es : List Entry) → AreFresh (replicate n false) es → length es ≤ n
fresh_few n es f =
    let c = counted (replicate n false) es f in
    let le = trues-le (made_true (replicate n false) es) in
    omega (arith, c, le, trues_replicate n, long n es)

-- and one less where a literal isn't true
pub fresh_room : (n : ℕ) (es : List Entry) (lit : ℕ) → AreFresh (replicate n false) es → lit < n → is_true (made_true (replicate n false) es) lit ≡ false → length es < n
fresh_room n es lit f lt e =
    let on = made_true (replicate n false) es in
    let c = counted (replicate n false) es f in
    let len = long n es in
    let more = trues_set (made_true (replicate n false) es) lit (omega (arith, lt, len)) e in
    let le = trues-le (slice_set (made_true (replicate n false) es) lit true) in
    omega (arith, c, le, trues_replicate n, len, more, length-set (made_true (replicate n false) es) lit true)

pub fresh-append : (on : List Bool) (es : List Entry) (e : Entry) → AreFresh on es → e.lit < length on → is_true (made_true on es) e.lit ≡ false → is_true (made_true on es) (opposite e.lit) ≡ false
    → AreFresh on (es ++ e ∷ [])
fresh-append on [] e f lt h o = (lt, h, o, tt)
fresh-append on (x ∷ xs) e f lt h o = (f.0, f.1, f.2, fresh-append (slice_set on x.lit true) xs e f.3 (rw length-set lt) h o)

pub fresh-front : (on : List Bool) (level : ℕ) (es : List Entry) → AreFresh on es → AreFresh on (front_to level es)
fresh-front on level [] f = tt
fresh-front on level (e ∷ es) f = by (nat_le e.level level) (fresh-front (slice_set on e.lit true) level es f.3)
  where
    by : (v : Bool) → AreFresh (slice_set on e.lit true) (front_to level es) → AreFresh on (cond v (e ∷ front_to level es) [])
    by true more = (f.0, f.1, f.2, more)
    by false more = tt

pub fresh-less : (on : List Bool) (es : List Entry) (e : Entry) → AreFresh on (es ++ e ∷ []) → AreFresh on es × (is_true (made_true on es) e.lit ≡ false)
fresh-less on [] e f = (tt, f.1)
fresh-less on (x ∷ xs) e f = let h = fresh-less (slice_set on x.lit true) xs e f.3 in ((f.0, f.1, f.2, h.0), h.1)

-- the last entry's literal unmarked again
pub unmarked : (on : List Bool) (es : List Entry) (e : Entry) → AreFresh on (es ++ e ∷ []) → slice_set (made_true on (es ++ e ∷ [])) e.lit false ≡ made_true on es
unmarked on es e f = ap (λ m. slice_set m e.lit false) (made_true-append on es e) ∙ set_back (made_true on es) e.lit (fresh-less on es e f).1
