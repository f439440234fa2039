-- A flag with its sign, and the text of a word's token.
use Rattle.std.proofs.Common.{◌≡◌, ℕ, Bool, true, false, List, [], ◌∷◌, refl, arith}
use Rattle.std.specs.Prelude.{◌==◌}
use Rattle.gv_version.specs.Bytes.{begins_with, is_letter_or_digit}
use Rattle.gv_version.specs.Names.{is_flag}
use Rattle.gv_expr.specs.Token.{signed, is_negated, without_sign}

signed_if : (b : ℕ) (bs : List ℕ) (e : Bool) → (b == 33) ≡ e → signed (without_sign (b ∷ bs)) e ≡ b ∷ bs
signed_if b bs true e = let n : b ≡ 33 = grind arith in rw (e, n) refl
signed_if b bs false e = rw e refl

pub signed_again : (text : List ℕ) → signed (without_sign text) (is_negated text) ≡ text
signed_again [] = refl
signed_again (b ∷ bs) = signed_if b bs (b == 33) refl

-- a flag has no sign of its own
not_sign : (b : ℕ) → is_letter_or_digit b ≡ true → (b == 33) ≡ false
not_sign b good = grind arith

begins_well : (flag : List ℕ) → is_flag flag ≡ true → begins_with is_letter_or_digit flag ≡ true
begins_well flag good = grind arith

no_sign : (flag : List ℕ) → is_flag flag ≡ true → is_negated flag ≡ false
no_sign [] good = refl
no_sign (b ∷ bs) good = not_sign b (begins_well (b ∷ bs) good)

pub unsigned : (flag : List ℕ) (negated : Bool) → is_flag flag ≡ true → without_sign (signed flag negated) ≡ flag
unsigned flag true good = refl
unsigned flag false good = rw (no_sign flag good) refl

pub negated_again : (flag : List ℕ) (negated : Bool) → is_flag flag ≡ true → is_negated (signed flag negated) ≡ negated
negated_again flag true good = refl
negated_again flag false good = no_sign flag good
