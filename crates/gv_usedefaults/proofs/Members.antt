-- The members of a group, one by one and by their numbers.
use Rattle.std.proofs.Common.{◌≡◌, ℕ, Bool, true, false, List, [], ◌∷◌, length, refl, ap, ◌∙◌, arith}
use Rattle.std.specs.Prelude.{◌==◌, nat_lt}
use Rattle.gv_entry.specs.Holds.{any_of, one_of, some_true, trues}

-- behind a member that doesn't hold, the group is like one that isn't empty
pub any_behind : (empty : Bool) (bs : List Bool) → any_of empty (false ∷ bs) ≡ any_of false bs
any_behind empty [] = refl
any_behind empty (b ∷ bs) = refl

some_by_number : (bs : List Bool) → nat_lt 0 (trues bs) ≡ some_true bs
some_by_number [] = refl
some_by_number (true ∷ bs) = grind arith
some_by_number (false ∷ bs) = some_by_number bs

-- a group of members, by their number and by the number of those that hold
pub any_by_numbers : (empty : Bool) (members holding : ℕ) (bs : List Bool) → members ≡ length bs → holding ≡ trues bs → (members ≡ 0 → ⊥) → nat_lt 0 holding ≡ any_of empty bs
any_by_numbers empty members holding [] m h some = absurd (some m)
any_by_numbers empty members holding (b ∷ bs) m h some = ap (nat_lt 0) h ∙ some_by_number (b ∷ bs)

pub one_by_numbers : (empty : Bool) (members holding : ℕ) (bs : List Bool) → members ≡ length bs → holding ≡ trues bs → (members ≡ 0 → ⊥) → (holding == 1) ≡ one_of empty bs
one_by_numbers empty members holding [] m h some = absurd (some m)
one_by_numbers empty members holding (b ∷ bs) m h some = ap (λ n. n == 1) h
