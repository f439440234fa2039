-- A digest is there exactly where there are 32 hexadecimal digits.
use Rattle.std.proofs.Common.{◌≡◌, ℕ, suc, zero, ◌+◌, Bool, true, false, ◌&&◌, List, [], ◌∷◌, length, Some, None, refl, arith}
use Rattle.std.specs.Prelude.{◌==◌, Option, if◌then◌else◌, is_some}
use Rattle.std.specs.List.{list_all}
use Rattle.gv_entry.specs.Digests.{digest_in, hex_bytes, hex_digit, with_byte}
use Rattle.gv_entry.specs.Laws.{is_hex_digit}

all_there : (n : ℕ) (text : List ℕ) → length text ≡ n + n → is_some (hex_bytes text) ≡ list_all is_hex_digit text
all_there n [] e = refl
all_there zero (h ∷ text) e = absurd (omega (arith, e))
all_there (suc n) (h ∷ []) e = absurd (omega (arith, e))
all_there (suc n) (h ∷ l ∷ hs) e = by (hex_digit h) (hex_digit l) (hex_bytes hs) (all_there n hs (omega (arith, e)))
  where
    by : (d f : Option ℕ) (rest : Option (List ℕ)) → is_some rest ≡ list_all is_hex_digit hs → is_some (with_byte d f rest) ≡ (is_some d && (is_some f && list_all is_hex_digit hs))
    by (Some a) (Some b) (Some r) is = is
    by (Some a) (Some b) None is = is
    by (Some a) None rest is = refl
    by None f rest is = refl

pub digest_there : (text : List ℕ) → is_some (digest_in text) ≡ (length text == 32 && list_all is_hex_digit text)
digest_there text = by (length text == 32) refl
  where
    by : (b : Bool) → (length text == 32) ≡ b → is_some (if b then hex_bytes text else None) ≡ (b && list_all is_hex_digit text)
    by true e = all_there 16 text (grind arith)
    by false e = refl
