-- Bytes that begin with numbers tell the numbers.
use Rattle.std.proofs.Common.{◌≡◌, ℕ, zero, suc, ◌+◌, ◌<◌, ◌≤◌, ◌^◌, List, [], ◌∷◌, ◌++◌, length, get_or, take, drop, refl, sym, subst, ◌∙◌, ap, append_assoc, length-append, append-nil, arith}
use Rattle.std.specs.List.{AllByRecursion}
use Rattle.std.specs.Int.{w32, from_be_bytes, to_be_bytes}
use Rattle.std.proofs.lemmas.Nat.{from_be_bytes-to_be_bytes_4, be_bytes_4}
use Rattle.gv_logic.specs.Bytes.{number_bytes, numbers_bytes}

pub number_long : (n : ℕ) (xs : List ℕ) → length (number_bytes n ++ xs) ≡ 4 + length xs
unfolding number_bytes
number_long n xs = omega arith

pub number_same : (m n : ℕ) (xs ys : List ℕ) → m < 2 ^ 32 → n < 2 ^ 32 → number_bytes m ++ xs ≡ number_bytes n ++ ys → (m ≡ n) × (xs ≡ ys)
unfolding number_bytes
number_same m n xs ys p q e =
    let front : to_be_bytes w32 m ≡ to_be_bytes w32 n = ap (take 4) e in
    (sym (from_be_bytes-to_be_bytes_4 m p) ∙ ap (from_be_bytes w32) front ∙ from_be_bytes-to_be_bytes_4 n q, ap (drop 4) e)

pub number_read : (bs : List ℕ) (n : ℕ) → 4 ≤ length bs → ((i : ℕ) → get_or bs i 0 < 256)
    → n ≡ from_be_bytes w32 (get_or bs 0 0 ∷ get_or bs 1 0 ∷ get_or bs 2 0 ∷ get_or bs 3 0 ∷ []) → bs ≡ number_bytes n ++ drop 4 bs
unfolding number_bytes
number_read [] n l f e = absurd (omega arith)
number_read (a ∷ []) n l f e = absurd (omega arith)
number_read (a ∷ b ∷ []) n l f e = absurd (omega arith)
number_read (a ∷ b ∷ c ∷ []) n l f e = absurd (omega arith)
number_read (a ∷ b ∷ c ∷ d ∷ rest) n l f e = ap (λ xs. xs ++ rest) (sym (be_bytes_4 (a ∷ b ∷ c ∷ d ∷ []) n refl fits e))
  where
    fits : (i : ℕ) → get_or (a ∷ b ∷ c ∷ d ∷ []) i 0 < 256
    fits zero = f 0
    fits (suc zero) = f 1
    fits (suc (suc zero)) = f 2
    fits (suc (suc (suc zero))) = f 3
    fits (suc (suc (suc (suc i)))) = omega arith

pub all_weak : (b c : ℕ) (ns : List ℕ) → b ≤ c → AllByRecursion (λ n. n < b) ns → AllByRecursion (λ n. n < c) ns
all_weak b c [] l a = tt
all_weak b c (n ∷ ns) l a = (omega (arith, a.0), all_weak b c ns l a.1)

pub all_right : (b : ℕ) (ms ns : List ℕ) → AllByRecursion (λ n. n < b) (ms ++ ns) → AllByRecursion (λ n. n < b) ns
all_right b [] ns a = a
all_right b (m ∷ ms) ns a = all_right b ms ns a.1

pub all_end : (b : ℕ) (ns : List ℕ) (n : ℕ) → AllByRecursion (λ x. x < b) ns → n < b → AllByRecursion (λ x. x < b) (ns ++ n ∷ [])
all_end b [] n a l = (l, tt)
all_end b (x ∷ xs) n a l = (a.0, all_end b xs n a.1 l)

pub numbers_append : (ms ns : List ℕ) → numbers_bytes (ms ++ ns) ≡ numbers_bytes ms ++ numbers_bytes ns
numbers_append [] ns = refl
numbers_append (m ∷ ms) ns = ap (λ bs. number_bytes m ++ bs) (numbers_append ms ns) ∙ sym (append_assoc (number_bytes m) (numbers_bytes ms) (numbers_bytes ns))

pub cons_same : {A : Type 0} (a b : A) (xs ys : List A) → a ≡ b → xs ≡ ys → (a ∷ xs) ≡ (b ∷ ys)
cons_same a b xs ys p q = rw (p, q) refl

-- what is left of the numbers, behind those that were read
pub record Left (done ns rest after : List ℕ) : Type 0 where
  pub more : List ℕ
  pub whole : ns ≡ done ++ more
  pub bytes : rest ≡ numbers_bytes more ++ after

pub left : (done ns rest after : List ℕ) → AllByRecursion (λ n. n < 2 ^ 32) done → AllByRecursion (λ n. n < 2 ^ 32) ns → length done ≤ length ns
    → numbers_bytes done ++ rest ≡ numbers_bytes ns ++ after → Left done ns rest after
left [] ns rest after p q l e = record { more = ns; whole = refl; bytes = e }
left (d ∷ ds) [] rest after p q l e = absurd (omega arith)
left (d ∷ ds) (n ∷ ns) rest after p q l e =
    let s = number_same d n (numbers_bytes ds ++ rest) (numbers_bytes ns ++ after) p.0 q.0
    (sym (append_assoc (number_bytes d) (numbers_bytes ds) rest) ∙ e ∙ append_assoc (number_bytes n) (numbers_bytes ns) after) in
    let m = left ds ns rest after p.1 q.1 (omega arith) s.1 in
    record { more = m.more; whole = cons_same n d ns (ds ++ m.more) (sym s.0) m.whole; bytes = m.bytes }

-- all numbers were the same, and so is what stands behind them
pub numbers_same : (ms ns xs ys : List ℕ) → AllByRecursion (λ n. n < 2 ^ 32) ms → AllByRecursion (λ n. n < 2 ^ 32) ns → length ms ≡ length ns
    → numbers_bytes ms ++ xs ≡ numbers_bytes ns ++ ys → (ms ≡ ns) × (xs ≡ ys)
numbers_same [] [] xs ys p q l e = (refl, e)
numbers_same [] (n ∷ ns) xs ys p q l e = absurd (omega arith)
numbers_same (m ∷ ms) [] xs ys p q l e = absurd (omega arith)
numbers_same (m ∷ ms) (n ∷ ns) xs ys p q l e =
    let s = number_same m n (numbers_bytes ms ++ xs) (numbers_bytes ns ++ ys) p.0 q.0
    (sym (append_assoc (number_bytes m) (numbers_bytes ms) xs) ∙ e ∙ append_assoc (number_bytes n) (numbers_bytes ns) ys) in
    let t = numbers_same ms ns xs ys p.1 q.1 (omega arith) s.1 in
    (cons_same m n ms ns s.0 t.0, t.1)

module _ (count bound : ℕ) (before done rest : List ℕ) (small : bound < 2 ^ 32) (short : length done < count) (below : AllByRecursion (λ n. n < bound) done) (bytes : before ≡ numbers_bytes done ++ rest) where
  -- the next number of any numbers that the bytes begin with
  next : (ns after : List ℕ) → length ns ≡ count → AllByRecursion (λ n. n < bound) ns → before ≡ numbers_bytes ns ++ after
      → ((n : ℕ) (tail : List ℕ) → n < bound → rest ≡ number_bytes n ++ tail → ⊥) → ⊥
  next ns after l a e no_ =
      let f : bound ≤ 2 ^ 32 = omega arith in
      let m = left done ns rest after (all_weak bound (2 ^ 32) done f below) (all_weak bound (2 ^ 32) ns f a) (omega arith) (sym bytes ∙ e) in
      by m.more m.whole m.bytes
    where
      by : (more : List ℕ) → ns ≡ done ++ more → rest ≡ numbers_bytes more ++ after → ⊥
      by [] w b = absurd (omega (arith, length-append done [], ap length w))
      by (n ∷ more) w b =
          let here = all_right bound done (n ∷ more) (subst (AllByRecursion (λ x. x < bound)) w a) in
          no_ n (numbers_bytes more ++ after) here.0 (b ∙ append_assoc (number_bytes n) (numbers_bytes more) after)

  pub none_short : length rest < 4 → (ns after : List ℕ) → length ns ≡ count → AllByRecursion (λ n. n < bound) ns → before ≡ numbers_bytes ns ++ after → ⊥
  none_short s ns after l a e = next ns after l a e (λ n tail _ b. absurd (omega (arith, ap length b, number_long n tail)))

  pub none_large : (m : ℕ) (tail : List ℕ) → m < 2 ^ 32 → bound ≤ m → rest ≡ number_bytes m ++ tail
      → (ns after : List ℕ) → length ns ≡ count → AllByRecursion (λ n. n < bound) ns → before ≡ numbers_bytes ns ++ after → ⊥
  none_large m tail f g r ns after l a e =
      next ns after l a e (λ n t lt b. let s = number_same m n tail t f (omega (arith, lt, small)) (sym r ∙ b) in absurd (omega (arith, s.0, lt)))

pub numbers_more : (bound : ℕ) (before done more rest after : List ℕ) (n k : ℕ) → more ≡ done ++ n ∷ [] → length done ≡ k → AllByRecursion (λ x. x < bound) done → before ≡ numbers_bytes done ++ rest
    → n < bound → rest ≡ number_bytes n ++ after
    → record { count : length more ≡ k + 1; below : AllByRecursion (λ x. x < bound) more; bytes : before ≡ numbers_bytes more ++ after }
numbers_more bound before done more rest after n k e c b y l r = rw e (record {
  count = omega (arith, length-append done (n ∷ []));
  below = all_end bound done n b l;
  bytes = y ∙ ap (λ bs. numbers_bytes done ++ bs) r ∙ sym (append_assoc (numbers_bytes done) (number_bytes n) after) ∙ ap (λ bs. bs ++ after) (ap (λ bs. numbers_bytes done ++ bs) (sym (append-nil (number_bytes n))) ∙ sym (numbers_append done (n ∷ [])));
})
