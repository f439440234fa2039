-- Bits that are kept in words.
use Rattle.std.proofs.Common.{◌≡◌, ◌≢◌, ℕ, zero, suc, ◌+◌, ◌*◌, ◌/◌, ◌%◌, ◌^◌, ◌<◌, ◌≤◌, Bool, List, [], ◌∷◌, ◌++◌, length, get_or, Some, None, arith, refl, sym, ap, ◌∙◌, inl, inr, length-append}
use Rattle.std.specs.Prelude.{bit_and, nat_eq, slice_get, slice_index}
use Rattle.std.specs.Int.{bit_at}
use Rattle.std.proofs.lemmas.Nat.Bits.{shr_and_one}
use Rattle.std.proofs.lemmas.Grind.{get_or_default_zero}
use Rattle.std.proofs.lemmas.Option.{slice_get_past}
use Rattle.std.proofs.lemmas.Bool.{cases_lt}
use Rattle.gv_visible.specs.BitList.{bits_of, is_on}

pub length-bits : (words : List ℕ) (n : ℕ) → length (bits_of words n) ≡ n
length-bits words zero = refl
length-bits words (suc n) = let h = length-bits words n in length-append (bits_of words n) (is_on words n ∷ []) ∙ omega (arith, h)

get_front : (xs : List Bool) (y : Bool) (i : ℕ) → i < length xs → slice_get (xs ++ y ∷ []) i ≡ slice_get xs i
get_front [] y i lt = absurd (omega (arith, lt))
get_front (x ∷ xs) y zero lt = refl
get_front (x ∷ xs) y (suc i) lt = get_front xs y i (omega (arith, lt))

get_end : (xs : List Bool) (y : Bool) → slice_get (xs ++ y ∷ []) (length xs) ≡ Some y
get_end [] y = refl
get_end (x ∷ xs) y = get_end xs y

pub get_bit : (words : List ℕ) (n i : ℕ) → i < n → slice_get (bits_of words n) i ≡ Some (is_on words i)
get_bit words zero i lt = absurd (omega (arith, lt))
get_bit words (suc n) i lt = elim (cases_lt i n) [
  | inl l ↦ get_front (bits_of words n) (is_on words n) i (rw (length-bits words n) l) ∙ get_bit words n i l
  | inr g ↦ let same : i ≡ n = omega (arith, g, lt) in rw same (ap (λ k. slice_get (bits_of words n ++ is_on words n ∷ []) k) (sym (length-bits words n)) ∙ get_end (bits_of words n) (is_on words n))
]

-- bits that agree give one list
pub same_bits : (old new : List ℕ) (n : ℕ) → ((i : ℕ) → i < n → is_on new i ≡ is_on old i) → bits_of new n ≡ bits_of old n
same_bits old new zero same = refl
same_bits old new (suc n) same = rw (same_bits old new n (λ i lt. same i (omega (arith, lt))), same n (omega arith)) refl

pub get_past : (words : List ℕ) (n i : ℕ) → n ≤ i → slice_get (bits_of words n) i ≡ None
get_past words n i le = slice_get_past (bits_of words n) i (omega (arith, length-bits words n, le))

pub get_read : (words : List ℕ) (n i word : ℕ) → i < n → n ≤ 64 * length words → word ≡ get_or words (i / 64) word
    → slice_get (bits_of words n) i ≡ Some (nat_eq (bit_and (word / 2 ^ (i % 64)) 1) 1)
get_read words n i word lt le is =
    let read : slice_index words (i / 64) ≡ word = sym (is ∙ get_or_default_zero words (i / 64) word (omega (arith, lt, le))) in
    get_bit words n i lt ∙ ap (λ bit. Some (nat_eq bit 1)) (sym (shr_and_one (slice_index words (i / 64)) (i % 64))) ∙ ap (λ w. Some (nat_eq (bit_and (w / 2 ^ (i % 64)) 1) 1)) read

-- a bit behind the first n
pub pushed : (old room new : List ℕ) (n : ℕ) (bit : Bool) → ((i : ℕ) → is_on room i ≡ is_on old i) → ((i : ℕ) → i ≢ n → is_on new i ≡ is_on room i) → is_on new n ≡ bit
    → bits_of new (n + 1) ≡ bits_of old n ++ bit ∷ []
pushed old room new n bit kept others here =
    let next : n + 1 ≡ suc n = omega arith in
    ap (bits_of new) next ∙ ap (λ bits. bits ++ is_on new n ∷ []) (same_bits old new n (λ i lt. others i (λ same. absurd (omega (arith, lt, same))) ∙ kept i)) ∙ ap (λ b. bits_of old n ++ b ∷ []) here

-- an empty word behind the others
pub with_empty : (words : List ℕ) (i : ℕ) → is_on (words ++ 0 ∷ []) i ≡ is_on words i
with_empty words i = ap (λ w. nat_eq (bit_at w (i % 64)) 1) (behind words (i / 64))
  where
    behind : (xs : List ℕ) (k : ℕ) → slice_index (xs ++ 0 ∷ []) k ≡ slice_index xs k
    behind [] zero = refl
    behind [] (suc k) = refl
    behind (x ∷ xs) zero = refl
    behind (x ∷ xs) (suc k) = behind xs k
