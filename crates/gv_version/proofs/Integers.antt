-- Digits as they are written, and the numbers that they are.
use Rattle.std.proofs.Common.{◌≡◌, ℕ, suc, ◌+◌, ◌*◌, ◌-◌, ◌<◌, ◌≤◌, Bool, true, false, List, [], ◌∷◌, length, drop, refl, ap, sym, ◌∙◌, arith, ◌⊎◌, inl, inr}
use Rattle.std.proofs.lemmas.Bool.{and_parts, eqb-true, cases_order}
use Rattle.std.specs.Cmp.Lexicographic.{slice_cmp}
use Rattle.std.specs.List.{list_all, prefix_len}
use Rattle.std.specs.Ordering.{nat_cmp, ordering_then}
use Rattle.std.specs.declared.cmp.Ordering.{Ordering}
use Rattle.std.specs.declared.cmp.Ordering.TheVariants.{Less, Equal, Greater}
use Rattle.gv_version.specs.Bytes.{is_digit, begins_with, behind}
use Rattle.gv_version.specs.TotalDigits.{is_less, is_equal, is_greater, then_equal, number_behind, digit_within, shorter}
use Rattle.gv_version.specs.Order.{number_of, is_zero}

pub then_then : (o p q : Ordering) → ordering_then (ordering_then o p) q ≡ ordering_then o (ordering_then p q)
then_then Less p q = refl
then_then Equal p q = refl
then_then Greater p q = refl

step_cmp : (n m x y : ℕ) → is_digit x ≡ true → is_digit y ≡ true → nat_cmp (10 * n + (x - 48)) (10 * m + (y - 48)) ≡ ordering_then (nat_cmp n m) (nat_cmp x y)
step_cmp n m x y hx hy = by (cases_order n m) (cases_order x y) (digit_within x hx) (digit_within y hy)
  where
    by : (n ≡ m) ⊎ ((n < m) ⊎ (m < n)) → (x ≡ y) ⊎ ((x < y) ⊎ (y < x)) → (48 ≤ x) × (x ≤ 57) → (48 ≤ y) × (y ≤ 57)
        → nat_cmp (10 * n + (x - 48)) (10 * m + (y - 48)) ≡ ordering_then (nat_cmp n m) (nat_cmp x y)
    by (inr (inl lt)) d wx wy = rw (is_less n m lt) (is_less (10 * n + (x - 48)) (10 * m + (y - 48)) (omega (arith, wx.0, wx.1)))
    by (inr (inr gt)) d wx wy = rw (is_greater n m gt) (is_greater (10 * n + (x - 48)) (10 * m + (y - 48)) (omega (arith, wy.0, wy.1)))
    by (inl e) (inl f) wx wy = rw (is_equal n m e, is_equal x y f) (is_equal (10 * n + (x - 48)) (10 * m + (y - 48)) (omega arith))
    by (inl e) (inr (inl lt)) wx wy = rw (is_equal n m e, is_less x y lt) (is_less (10 * n + (x - 48)) (10 * m + (y - 48)) (omega (arith, wx.0)))
    by (inl e) (inr (inr gt)) wx wy = rw (is_equal n m e, is_greater x y gt) (is_greater (10 * n + (x - 48)) (10 * m + (y - 48)) (omega (arith, wy.0)))

same_length : (n m : ℕ) (xs ys : List ℕ) → length xs ≡ length ys → list_all is_digit xs ≡ true → list_all is_digit ys ≡ true
    → nat_cmp (number_behind n xs) (number_behind m ys) ≡ ordering_then (nat_cmp n m) (slice_cmp nat_cmp xs ys)
same_length n m [] [] e hx hy = sym (then_equal (nat_cmp n m))
same_length n m [] (y ∷ ys) e hx hy = absurd (omega arith)
same_length n m (x ∷ xs) [] e hx hy = absurd (omega arith)
same_length n m (x ∷ xs) (y ∷ ys) e hx hy =
    let xparts = and_parts (is_digit x) (list_all is_digit xs) hx in
    let yparts = and_parts (is_digit y) (list_all is_digit ys) hy in
    same_length (10 * n + (x - 48)) (10 * m + (y - 48)) xs ys (omega arith) xparts.1 yparts.1
    ∙ ap (λ o. ordering_then o (slice_cmp nat_cmp xs ys)) (step_cmp n m x y xparts.0 yparts.0)
    ∙ then_then (nat_cmp n m) (nat_cmp x y) (slice_cmp nat_cmp xs ys)

-- Without leading zeros.
pub behind_yes : (test : ℕ → Bool) (b : ℕ) (bs : List ℕ) → test b ≡ true → behind test (b ∷ bs) ≡ behind test bs
behind_yes test b bs h = rw h (let e : 1 + prefix_len test bs ≡ suc (prefix_len test bs) = omega arith in ap (λ n. drop n (b ∷ bs)) e)

behind_no : (test : ℕ → Bool) (b : ℕ) (bs : List ℕ) → test b ≡ false → behind test (b ∷ bs) ≡ b ∷ bs
behind_no test b bs h = rw h refl

record IsBare (digits bare : List ℕ) : Type 0 where
  number : number_of digits ≡ number_of bare
  good : list_all is_digit bare ≡ true
  first : begins_with is_zero bare ≡ false

bared : (x : List ℕ) → list_all is_digit x ≡ true → IsBare x (behind is_zero x)
bared [] h = record { number = refl; good = refl; first = refl }
bared (d ∷ ds) h = by (is_zero d) refl (bared ds (and_parts (is_digit d) (list_all is_digit ds) h).1)
  where
    by : (zero : Bool) → is_zero d ≡ zero → IsBare ds (behind is_zero ds) → IsBare (d ∷ ds) (behind is_zero (d ∷ ds))
    by true e later =
        let zero_digit : number_of (d ∷ ds) ≡ number_of ds = ap (λ x. number_of (x ∷ ds)) (eqb-true d 48 e) in
        rw (behind_yes is_zero d ds e) (record { number = zero_digit ∙ later.number; good = later.good; first = later.first })
    by false e later = rw (behind_no is_zero d ds e) (record { number = refl; good = h; first = e })

bare_cmp : (x y : List ℕ) → list_all is_digit x ≡ true → list_all is_digit y ≡ true → begins_with is_zero x ≡ false → begins_with is_zero y ≡ false
    → nat_cmp (number_of x) (number_of y) ≡ ordering_then (nat_cmp (length x) (length y)) (slice_cmp nat_cmp x y)
bare_cmp x y hx hy fx fy = by (cases_order (length x) (length y))
  where
    by : (length x ≡ length y) ⊎ ((length x < length y) ⊎ (length y < length x)) → nat_cmp (number_of x) (number_of y) ≡ ordering_then (nat_cmp (length x) (length y)) (slice_cmp nat_cmp x y)
    by (inl e) = rw (is_equal (length x) (length y) e) (same_length 0 0 x y e hx hy)
    by (inr (inl lt)) = rw (is_less (length x) (length y) lt) (is_less (number_of x) (number_of y) (shorter x y lt hx hy fy))
    by (inr (inr gt)) = rw (is_greater (length x) (length y) gt) (is_greater (number_of x) (number_of y) (shorter y x gt hy hx fx))

pub integers : (x y : List ℕ) → list_all is_digit x ≡ true → list_all is_digit y ≡ true
    → nat_cmp (number_of x) (number_of y) ≡ ordering_then (nat_cmp (length (behind is_zero x)) (length (behind is_zero y))) (slice_cmp nat_cmp (behind is_zero x) (behind is_zero y))
integers x y hx hy =
    let u = bared x hx in
    let v = bared y hy in
    ap (λ n. nat_cmp n (number_of y)) u.number ∙ ap (λ n. nat_cmp (number_of (behind is_zero x)) n) v.number
    ∙ bare_cmp (behind is_zero x) (behind is_zero y) u.good v.good u.first v.first
