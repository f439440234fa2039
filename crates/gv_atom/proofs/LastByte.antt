-- The last byte of a text that is put together.
use Rattle.std.proofs.Common.{◌≡◌, ℕ, suc, ◌-◌, true, false, not, List, [], ◌∷◌, ◌++◌, length, refl, ap, arith}
use Rattle.std.proofs.lemmas.Bool.{and_parts}
use Rattle.std.specs.Prelude.{◌==◌}
use Rattle.gv_base.specs.Cut.{ends_in, without_last}
use Rattle.gv_atom.proofs.Lacks.{lacks, not_true}

-- it is the byte that was added
pub ends_added : (c d : ℕ) (text : List ℕ) → ends_in c (text ++ d ∷ []) ≡ (d == c)
ends_added c d [] = refl
ends_added c d (b ∷ []) = refl
ends_added c d (b ∷ e ∷ bs) = ends_added c d (e ∷ bs)

pub last_off : (d : ℕ) (text : List ℕ) → without_last (text ++ d ∷ []) ≡ text
last_off d [] = refl
last_off d (b ∷ bs) = by bs (last_off d bs)
  where
    by : (more : List ℕ) → without_last (more ++ d ∷ []) ≡ more → without_last (b ∷ (more ++ d ∷ [])) ≡ b ∷ more
    by [] e = refl
    by (x ∷ xs) e =
        let n : length (b ∷ x ∷ (xs ++ d ∷ [])) - 1 ≡ suc (length (x ∷ (xs ++ d ∷ [])) - 1) = omega arith in
        rw n (ap (λ y. b ∷ y) e)

-- a text that lacks the byte doesn't end in it
pub no_end : (c : ℕ) (text : List ℕ) → lacks c text ≡ true → ends_in c text ≡ false
no_end c [] h = refl
no_end c (b ∷ []) h = not_true (b == c) (and_parts (not (b == c)) true h).0
no_end c (b ∷ e ∷ bs) h = no_end c (e ∷ bs) (and_parts (not (b == c)) (lacks c (e ∷ bs)) h).1
