-- Short numbers: bytes that begin with one tell it, and which one was read.
-- A short number is read by a function that calls itself at most four times: what follows a byte of 128 or more is a
-- short number of one byte less, and where that is 0 the number could have been written shorter. The proofs of reading
-- split by the version here alone (`form_cancels`, `hint_cancels`).
use Rattle.std.proofs.Common.{◌≡◌, inl, inr, ℕ, zero, suc, ◌+◌, ◌-◌, ◌*◌, ◌/◌, ◌%◌, ◌<◌, ◌≤◌, ◌^◌, List, [], ◌∷◌, ◌++◌, length, get_or, drop, refl, sym, subst, ◌∙◌, ap, append_assoc, length-append, arith}
use Rattle.std.specs.Prelude.{if◌then◌else◌}
use Rattle.std.proofs.Math.Nat.{pow-le-pow_right}
use Rattle.std.proofs.lemmas.Bool.{cases_lt, lt-ltb, le-ltb}
use Rattle.gv_logic.specs.Bytes.{number_bytes}
use Rattle.gv_cert.specs.Numbers.{short_within, short_bytes, number_form, hint_form, IsNumber, IsHint}
use Rattle.gv_cert.specs.Reader.{IsShort}
use Rattle.gv_cert.specs.declared.version.FileVersion.{FileVersion}
use Rattle.gv_cert.specs.declared.version.FileVersion.TheVariants.{First, Second}
use Rattle.gv_cert.proofs.Cancel.{Cancels, number_cancels}

abbrev head : List ℕ → ℕ
head bs = get_or bs 0 0

-- The two cases of a short number.

pub short_last : (more n : ℕ) → n < 128 → short_within more n ≡ n ∷ []
short_last zero n l = refl
short_last (suc more) n l = ap (λ b. if b then n ∷ [] else (128 + n % 128) ∷ short_within more (n / 128)) (lt-ltb n 128 l)

pub short_next : (more n : ℕ) → 128 ≤ n → short_within (suc more) n ≡ (128 + n % 128) ∷ short_within more (n / 128)
short_next more n l = ap (λ b. if b then n ∷ [] else (128 + n % 128) ∷ short_within more (n / 128)) (le-ltb n 128 l)

short_some : (more n : ℕ) → 1 ≤ length (short_within more n)
short_some zero n = omega arith
short_some (suc more) n =
    elim (cases_lt n 128) [
      | inl l ↦ omega (arith, ap length (short_last (suc more) n l))
      | inr l ↦ omega (arith, ap length (short_next more n l), short_some more (n / 128))
    ]

-- What begins equal bytes is the same, and so is what follows.

pub within_cancels : (more x y : ℕ) (xs ys : List ℕ) → short_within more x ++ xs ≡ short_within more y ++ ys → (x ≡ y) × (xs ≡ ys)
within_cancels zero x y xs ys e = (ap head e, ap (drop 1) e)
within_cancels (suc more) x y xs ys e =
    elim (cases_lt x 128) [
      | inl l ↦ elim (cases_lt y 128) [
        | inl m ↦ (let f : x ∷ xs ≡ y ∷ ys = last x xs l ∙ e ∙ sym (last y ys m) in (ap head f, ap (drop 1) f))
        | inr m ↦ (let f : x ∷ xs ≡ (128 + y % 128) ∷ (short_within more (y / 128) ++ ys) = last x xs l ∙ e ∙ sym (next y ys m) in absurd (omega (arith, ap head f, l)))
      ]
      | inr l ↦ elim (cases_lt y 128) [
        | inl m ↦ (let f : (128 + x % 128) ∷ (short_within more (x / 128) ++ xs) ≡ y ∷ ys = next x xs l ∙ e ∙ sym (last y ys m) in absurd (omega (arith, ap head f, m)))
        | inr m ↦ (
            let f : (128 + x % 128) ∷ (short_within more (x / 128) ++ xs) ≡ (128 + y % 128) ∷ (short_within more (y / 128) ++ ys) = next x xs l ∙ e ∙ sym (next y ys m) in
            let r = within_cancels more (x / 128) (y / 128) xs ys (ap (drop 1) f) in
            (omega (arith, ap head f, r.0), r.1))
      ]
    ]
  where
    last : (n : ℕ) (ns : List ℕ) → n < 128 → n ∷ ns ≡ short_within (suc more) n ++ ns
    last n ns l = ap (λ bs. bs ++ ns) (sym (short_last (suc more) n l))

    next : (n : ℕ) (ns : List ℕ) → 128 ≤ n → (128 + n % 128) ∷ (short_within more (n / 128) ++ ns) ≡ short_within (suc more) n ++ ns
    next n ns l = ap (λ bs. bs ++ ns) (sym (short_next more n l))

way_cancels : (x y : ℕ) (xs ys : List ℕ) → short_bytes x ++ xs ≡ short_bytes y ++ ys → (x ≡ y) × (xs ≡ ys)
unfolding short_bytes
way_cancels x y xs ys e = within_cancels 4 x y xs ys e

pub short_cancels : Cancels IsNumber short_bytes
short_cancels x y xs ys p q e = way_cancels x y xs ys e

pub form_cancels : (version : FileVersion) → Cancels IsNumber (number_form version)
form_cancels First = number_cancels
form_cancels Second = short_cancels

pub hint_cancels : (version : FileVersion) (names : ℕ) → Cancels (IsHint names) (hint_form version names)
hint_cancels First names x y xs ys p q e = number_cancels x y xs ys p.1 q.1 e
hint_cancels Second names x y xs ys p q e = let r = way_cancels (names - x) (names - y) xs ys e in (omega (arith, r.0, p.0, q.0), r.1)

-- Sizes.

some_power : (k : ℕ) → 1 ≤ 128 ^ k
some_power zero = omega arith
some_power (suc k) = omega (arith, some_power k)

one_byte : (more n : ℕ) → n < 128 → IsShort more n
one_byte more n l = omega (arith, some_power more, l)

pub short_bound : (more n : ℕ) → more ≤ 3 → IsShort more n → n < 2 ^ 28
short_bound more n few is = omega (arith, is, pow-le-pow_right {n = 128} (omega arith) few)

-- Reading: none where no byte is there.

pub empty_none : (more : ℕ) (before : List ℕ) → before ≡ [] → (x : ℕ) (rest : List ℕ) → IsShort more x → before ≡ short_within more x ++ rest → ⊥
empty_none more before z x rest is e = absurd (omega (arith, short_some more x, ap length (sym z ∙ e), length-append (short_within more x) rest))

module _ (before behind : List ℕ) (byte : ℕ) (begins : before ≡ byte ∷ behind) where
  -- one below 128 is the number
  pub last_read : (more : ℕ) → byte < 128 → IsShort more byte × (before ≡ short_within more byte ++ behind)
  last_read more l = (one_byte more byte l, begins ∙ ap (λ bs. bs ++ behind) (sym (short_last more byte l)))

  -- another one can't be the last that there may be
  pub last_none : (more : ℕ) → 128 ≤ byte → more ≡ 0 → (x : ℕ) (rest : List ℕ) → IsShort more x → before ≡ short_within more x ++ rest → ⊥
  last_none zero l z x rest is e = absurd (omega (arith, is, l, ap head (sym begins ∙ e)))
  last_none (suc more) l z x rest is e = absurd (omega (arith, z))

  -- else what follows it is one of one byte less
  record Follows (more x : ℕ) (rest : List ℕ) : Type 0 where
    pub big : 128 ≤ x
    pub low : byte ≡ 128 + x % 128
    pub short : IsShort more (x / 128)
    pub bytes : behind ≡ short_within more (x / 128) ++ rest

  follows : (more x : ℕ) (rest : List ℕ) → 128 ≤ byte → IsShort (suc more) x → before ≡ short_within (suc more) x ++ rest → Follows more x rest
  follows more x rest l is e =
      elim (cases_lt x 128) [
        | inl m ↦ absurd (omega (arith, l, m, ap head (sym begins ∙ e ∙ ap (λ bs. bs ++ rest) (short_last (suc more) x m))))
        | inr m ↦ (
            let f : byte ∷ behind ≡ (128 + x % 128) ∷ (short_within more (x / 128) ++ rest) = sym begins ∙ e ∙ ap (λ bs. bs ++ rest) (short_next more x m) in
            record { big = m; low = ap head f; short = omega (arith, is); bytes = ap (drop 1) f })
      ]

  next_none : (more : ℕ) → 128 ≤ byte → ((y : ℕ) (tail : List ℕ) → IsShort more y → behind ≡ short_within more y ++ tail → ⊥)
      → (x : ℕ) (rest : List ℕ) → IsShort (suc more) x → before ≡ short_within (suc more) x ++ rest → ⊥
  next_none more l no_ x rest is e = let f = follows more x rest l is e in no_ (x / 128) rest f.short f.bytes

  next_zero : (more high : ℕ) (after : List ℕ) → 128 ≤ byte → behind ≡ short_within more high ++ after → high ≡ 0
      → (x : ℕ) (rest : List ℕ) → IsShort (suc more) x → before ≡ short_within (suc more) x ++ rest → ⊥
  next_zero more high after l read z x rest is e =
      let f = follows more x rest l is e in
      absurd (omega (arith, f.big, z, (within_cancels more (x / 128) high rest after (sym f.bytes ∙ read)).0))

  next_read : (more high n : ℕ) (after : List ℕ) → 128 ≤ byte → byte < 256 → IsShort more high × (behind ≡ short_within more high ++ after) → 0 < high → n ≡ 128 * high + (byte - 128)
      → IsShort (suc more) n × (before ≡ short_within (suc more) n ++ after)
  next_read more high n after l u read some is =
      let low : byte ≡ 128 + n % 128 = omega (arith, l, u, is) in
      let rest : high ≡ n / 128 = omega (arith, l, u, is) in
      let whole : byte ∷ short_within more high ≡ short_within (suc more) n =
      ap (λ b. b ∷ short_within more high) low ∙ ap (λ h. (128 + n % 128) ∷ short_within more h) rest ∙ sym (short_next more n (omega (arith, some, is))) in
      (omega (arith, l, u, is, read.0), begins ∙ ap (λ bs. byte ∷ bs) read.1 ∙ ap (λ bs. bs ++ after) whole)

-- The same for one byte less, as the code has it.

on_less : (P : ℕ → ℕ → Type 0) → ((m : ℕ) → P (suc m) m) → (more : ℕ) → 0 < more → P more (more - 1)
on_less P p zero some = absurd (omega (arith, some))
on_less P p (suc m) some = let same : m ≡ suc m - 1 = omega arith in subst (λ k. P (suc m) k) same (p m)

module _ (before behind : List ℕ) (byte : ℕ) (begins : before ≡ byte ∷ behind) (l : 128 ≤ byte) (more : ℕ) (some : 0 < more) where
  pub short_none : ((y : ℕ) (tail : List ℕ) → IsShort (more - 1) y → behind ≡ short_within (more - 1) y ++ tail → ⊥)
      → (x : ℕ) (rest : List ℕ) → IsShort more x → before ≡ short_within more x ++ rest → ⊥
  short_none = on_less (λ m k. ((y : ℕ) (tail : List ℕ) → IsShort k y → behind ≡ short_within k y ++ tail → ⊥) → (x : ℕ) (rest : List ℕ) → IsShort m x → before ≡ short_within m x ++ rest → ⊥)
      (λ m. next_none before behind byte begins m l) more some

  pub short_zero : (high : ℕ) (after : List ℕ) → IsShort (more - 1) high × (behind ≡ short_within (more - 1) high ++ after) → high ≡ 0
      → (x : ℕ) (rest : List ℕ) → IsShort more x → before ≡ short_within more x ++ rest → ⊥
  short_zero high after = on_less (λ m k. IsShort k high × (behind ≡ short_within k high ++ after) → high ≡ 0 → (x : ℕ) (rest : List ℕ) → IsShort m x → before ≡ short_within m x ++ rest → ⊥)
      (λ m read z. next_zero before behind byte begins m high after l read.1 z) more some

  pub short_read : (high n : ℕ) (after : List ℕ) → byte < 256 → IsShort (more - 1) high × (behind ≡ short_within (more - 1) high ++ after) → 0 < high → n ≡ 128 * high + (byte - 128)
      → IsShort more n × (before ≡ short_within more n ++ after)
  short_read high n after u = on_less (λ m k. IsShort k high × (behind ≡ short_within k high ++ after) → 0 < high → n ≡ 128 * high + (byte - 128) → IsShort m n × (before ≡ short_within m n ++ after))
      (λ m read pos is. next_read before behind byte begins m high n after l u read pos is) more some

-- A hint that was read as four bytes.

pub named_past : (before after : List ℕ) (names hint : ℕ) → IsNumber hint × (before ≡ number_bytes hint ++ after) → names ≤ hint
    → (x : ℕ) (rest : List ℕ) → IsHint names x → before ≡ number_bytes x ++ rest → ⊥
named_past before after names hint read past x rest is e =
    absurd (omega (arith, past, is.0, (number_cancels x hint rest after is.1 read.0 (sym e ∙ read.1)).0))

-- Numbers and hints that were read as short numbers.

module _ (before after : List ℕ) where
  pub number_none : ((x : ℕ) (rest : List ℕ) → IsShort 4 x → before ≡ short_within 4 x ++ rest → ⊥) → (x : ℕ) (rest : List ℕ) → IsNumber x → before ≡ short_bytes x ++ rest → ⊥
  unfolding short_bytes
  number_none no_ x rest is e = no_ x rest (omega (arith, is)) e

  pub hint_none : (names : ℕ) → names < 2 ^ 33 → ((x : ℕ) (rest : List ℕ) → IsShort 4 x → before ≡ short_within 4 x ++ rest → ⊥)
      → (x : ℕ) (rest : List ℕ) → IsHint names x → before ≡ hint_form Second names x ++ rest → ⊥
  unfolding short_bytes
  hint_none names few no_ x rest is e = no_ (names - x) rest (omega (arith, few)) e

  module _ (n : ℕ) (read : IsShort 4 n × (before ≡ short_within 4 n ++ after)) where
    pub number_long : 2 ^ 32 ≤ n → (x : ℕ) (rest : List ℕ) → IsNumber x → before ≡ short_bytes x ++ rest → ⊥
    unfolding short_bytes
    number_long l x rest is e = absurd (omega (arith, l, is, (within_cancels 4 x n rest after (sym e ∙ read.1)).0))

    pub number_read : n < 2 ^ 32 → IsNumber n × (before ≡ short_bytes n ++ after)
    unfolding short_bytes
    number_read l = (l, read.1)

    hint_is : (names x : ℕ) (rest : List ℕ) → before ≡ hint_form Second names x ++ rest → names - x ≡ n
    unfolding short_bytes
    hint_is names x rest e = (within_cancels 4 (names - x) n rest after (sym e ∙ read.1)).0

    pub hint_zero : (names : ℕ) → n ≡ 0 → (x : ℕ) (rest : List ℕ) → IsHint names x → before ≡ hint_form Second names x ++ rest → ⊥
    hint_zero names z x rest is e = absurd (omega (arith, z, is.0, hint_is names x rest e))

    pub hint_past : (names : ℕ) → names < n → (x : ℕ) (rest : List ℕ) → IsHint names x → before ≡ hint_form Second names x ++ rest → ⊥
    hint_past names l x rest is e = absurd (omega (arith, l, is.0, hint_is names x rest e))

    pub hint_long : (names : ℕ) → n ≤ names → 2 ^ 32 ≤ names - n → (x : ℕ) (rest : List ℕ) → IsHint names x → before ≡ hint_form Second names x ++ rest → ⊥
    hint_long names u l x rest is e = absurd (omega (arith, u, l, is.0, is.1, hint_is names x rest e))

    pub hint_read : (names hint : ℕ) → 0 < n → n ≤ names → hint ≡ names - n → hint < 2 ^ 32 → IsHint names hint × (before ≡ hint_form Second names hint ++ after)
    unfolding short_bytes
    hint_read names hint some u is l =
        let same : n ≡ names - hint = omega (arith, u, is) in
        ((omega (arith, some, u, is), l), read.1 ∙ ap (λ k. short_within 4 k ++ after) same)

-- Writing: what is still to be written, seven bits at a time.

pub record Rests (start : List ℕ) (n : ℕ) (bytes : List ℕ) (rest : ℕ) : Type 0 where
  pub more : ℕ
  pub few : IsShort more rest
  pub whole : bytes ++ short_within more rest ≡ start ++ short_bytes n

module _ (start : List ℕ) (n : ℕ) (bytes : List ℕ) (rest : ℕ) where
  pub rests_first : bytes ≡ start → rest ≡ n → n < 2 ^ 33 → Rests start n bytes rest
  unfolding short_bytes
  rests_first same is few = record { more = 4; few = omega (arith, is, few); whole = ap (λ bs. bs ++ short_within 4 rest) same ∙ ap (λ k. start ++ short_within 4 k) is }

  pub rests_next : (byte : ℕ) (longer : List ℕ) → Rests start n bytes rest → 128 ≤ rest → byte ≡ 128 + rest % 128 → longer ≡ bytes ++ byte ∷ [] → Rests start n longer (rest / 128)
  rests_next byte longer r l low is = by r.more r.few r.whole
    where
      by : (more : ℕ) → IsShort more rest → bytes ++ short_within more rest ≡ start ++ short_bytes n → Rests start n longer (rest / 128)
      by zero few whole = absurd (omega (arith, few, l))
      by (suc more) few whole = record {
        more = more;
        few = omega (arith, few);
        whole = ap (λ bs. bs ++ short_within more (rest / 128)) is ∙ append_assoc bytes (byte ∷ []) (short_within more (rest / 128))
            ∙ ap (λ b. bytes ++ b ∷ short_within more (rest / 128)) low ∙ ap (λ bs. bytes ++ bs) (sym (short_next more rest l)) ∙ whole;
      }

  pub rests_last : (longer : List ℕ) → Rests start n bytes rest → rest < 128 → longer ≡ bytes ++ rest ∷ [] → longer ≡ start ++ short_bytes n
  rests_last longer r l is = is ∙ ap (λ bs. bytes ++ bs) (sym (short_last r.more rest l)) ∙ r.whole
