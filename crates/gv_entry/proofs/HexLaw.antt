-- The digits of a digest, as they are decoded.
use Rattle.std.proofs.Common.{◌≡◌, ℕ, ◌+◌, ◌*◌, ◌-◌, ◌%◌, Bool, true, false, List, [], ◌∷◌, length, refl, sym, ap, ◌∙◌, arith}
use Rattle.std.specs.Prelude.{◌==◌, ◌&&◌, nat_le, if◌then◌else◌, Option, Some, None, Result, Ok, Err}
use Rattle.std.specs.Result.{result_ok}
use Rattle.hex.specs.declared.error.FromHexError.{FromHexError}
use Rattle.hex.specs.Hex.{◌>>=◌, decode_pairs, decode_sized, digit_or_error, hex_digit_value}
use Rattle.hex.proofs.HexLemmas.{decode_of-even, decode_sized-ok, decode_sized-twice}
use Rattle.gv_entry.specs.Digests.{digest_in, hex_bytes, hex_digit, with_byte}

same_digit : (b : ℕ) → hex_digit_value b ≡ hex_digit b
same_digit b = by (nat_le 65 b) (nat_le b 70) (nat_le 97 b) (nat_le b 102) (nat_le 48 b) (nat_le b 57) refl refl refl refl refl refl
  where
    by : (l m n o p q : Bool) → nat_le 65 b ≡ l → nat_le b 70 ≡ m → nat_le 97 b ≡ n → nat_le b 102 ≡ o → nat_le 48 b ≡ p → nat_le b 57 ≡ q
        → (if l && m then Some (b - 55) else if n && o then Some (b - 87) else if p && q then Some (b - 48) else None)
        ≡ (if p && q then Some (b - 48) else if n && o then Some (b - 87) else if l && m then Some (b - 55) else None)
    by l m n o p q e1 e2 e3 e4 e5 e6 = grind arith

digit_pairs : (i : ℕ) (text : List ℕ) → result_ok (decode_pairs i text) ≡ hex_bytes text
unfolding decode_pairs
digit_pairs i [] = refl
digit_pairs i (h ∷ []) = refl
digit_pairs i (h ∷ l ∷ hs) =
    rw (same_digit h, same_digit l) (by (hex_digit h) (hex_digit l) (decode_pairs (i + 2) hs) (hex_bytes hs) (digit_pairs (i + 2) hs))
  where
    by : (d e : Option ℕ) (r : Result (List ℕ) FromHexError) (rest : Option (List ℕ)) → result_ok r ≡ rest
        → result_ok ((digit_or_error h i d >>= (λ a. digit_or_error l (i + 1) e >>= (λ b. Ok (a * 16 + b)))) >>= (λ byte. r >>= (λ bytes. Ok (byte ∷ bytes)))) ≡ with_byte d e rest
    by (Some a) (Some b) (Ok bytes) rest is = let turned : a * 16 + b ≡ 16 * a + b = omega arith in rw (sym is, turned) refl
    by (Some a) (Some b) (Err x) rest is = rw (sym is) refl
    by (Some a) None r rest is = refl
    by None e r rest is = refl

pub digest_is : (text : List ℕ) → result_ok (decode_sized text 16) ≡ digest_in text
digest_is text = by (length text == 32) refl
  where
    none : (r : Result (List ℕ) FromHexError) → (length text == 32) ≡ false → decode_sized text 16 ≡ r → result_ok r ≡ None
    none (Ok bytes) other is = let long = decode_sized-ok text 16 bytes is in absurd (grind arith)
    none (Err e) other is = refl

    by : (b : Bool) → (length text == 32) ≡ b → result_ok (decode_sized text 16) ≡ (if b then hex_bytes text else None)
    by true e =
        let long : length text ≡ 2 * 16 = grind arith in
        let even : length text % 2 ≡ 0 = rw long refl in
        ap result_ok (decode_sized-twice text 16 long ∙ decode_of-even text even) ∙ digit_pairs 0 text
    by false e = none (decode_sized text 16) e refl
