-- The edit of a command is taken.
use Rattle.std.proofs.Common.{◌≡◌, ◌≤◌, ◌<◌, ℕ, Bool, true, false, ◌&&◌, List, length, sym, ◌∙◌, inl, inr, arith}
use Rattle.std.specs.Prelude.{◌⊎◌, nat_le}
use Rattle.std.proofs.lemmas.Bool.{false≢true}
use Rattle.gv_base.specs.Paths.{is_path}
use Rattle.gv_edits.specs.Command.{is_edit_path}

both : (a b : Bool) → (a && b) ≡ true → (a ≡ true) × (b ≡ true)
both true true is = (is, is)
both true false is = absurd (false≢true is)
both false b is = absurd (false≢true is)

short : (path : List ℕ) → is_edit_path path ≡ true → length path ≤ 4096
short path is = let few = (both (is_path path) (nat_le (length path) 4096) is).1 in grind (arith, few)

pub no_bad_path : (path : List ℕ) → is_edit_path path ≡ true → is_path path ≡ false → ⊥
no_bad_path path is bad = absurd (false≢true (sym bad ∙ (both (is_path path) (nat_le (length path) 4096) is).0))

pub no_long_path : (path : List ℕ) → is_edit_path path ≡ true → (is_path path ≡ true) × (4096 < length path) → ⊥
no_long_path path is long = absurd (omega (arith, short path is, long.1))

pub no_limit : (path bytes : List ℕ) → is_edit_path path ≡ true → length bytes ≤ 16777216 → (is_path path ≡ true) × ((4096 < length path) ⊎ (16777216 < length bytes)) → ⊥
no_limit path bytes is few long = by long.1
  where
    by : (4096 < length path) ⊎ (16777216 < length bytes) → ⊥
    by (inl more) = absurd (omega (arith, short path is, more))
    by (inr more) = absurd (omega (arith, few, more))
