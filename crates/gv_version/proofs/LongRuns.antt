-- The place of a run of more than 18 digits, run by run.
use Rattle.std.proofs.Common.{◌≡◌, ℕ, suc, ◌+◌, ◌<◌, ◌≤◌, Bool, true, false, List, [], ◌∷◌, length, drop, refl, ap, sym, ◌∙◌, arith, Some}
use Rattle.std.proofs.lemmas.Bool.{lt-ltb, le-ltb}
use Rattle.std.proofs.lemmas.List.{drop-drop}
use Rattle.std.specs.List.{prefix_len}
use Rattle.gv_version.specs.Bytes.{is_digit}
use Rattle.gv_version.specs.Form.{long_run_from}

one_on : (at : ℕ) (b : ℕ) (bs : List ℕ) → prefix_len is_digit (b ∷ bs) ≤ 18 → long_run_from at (b ∷ bs) ≡ long_run_from (at + 1) bs
one_on at b bs le = rw (le-ltb 18 (prefix_len is_digit (b ∷ bs)) le) refl

one_less : (at n k : ℕ) (b : ℕ) (bs : List ℕ) → k ≡ suc (n + 1) → long_run_from (at + k) (drop k (b ∷ bs)) ≡ long_run_from ((at + 1) + (n + 1)) (drop (n + 1) bs)
one_less at n k b bs e =
    let place : at + suc (n + 1) ≡ (at + 1) + (n + 1) = omega arith in
    ap (λ m. long_run_from (at + m) (drop m (b ∷ bs))) e ∙ ap (λ i. long_run_from i (drop (n + 1) bs)) place

-- a run of 18 digits or fewer, and the byte behind it, can be passed over
past : (at : ℕ) (bytes : List ℕ) → prefix_len is_digit bytes ≤ 18 → long_run_from at bytes ≡ long_run_from (at + (prefix_len is_digit bytes + 1)) (drop (prefix_len is_digit bytes + 1) bytes)
past at [] le = refl
past at (b ∷ bs) le = by (is_digit b) refl (past (at + 1) bs)
  where
    by : (digit : Bool) → is_digit b ≡ digit
        → (prefix_len is_digit bs ≤ 18 → long_run_from (at + 1) bs ≡ long_run_from ((at + 1) + (prefix_len is_digit bs + 1)) (drop (prefix_len is_digit bs + 1) bs))
        → long_run_from at (b ∷ bs) ≡ long_run_from (at + (prefix_len is_digit (b ∷ bs) + 1)) (drop (prefix_len is_digit (b ∷ bs) + 1) (b ∷ bs))
    by true e later =
        let whole : prefix_len is_digit (b ∷ bs) ≡ 1 + prefix_len is_digit bs = rw e refl in
        one_on at b bs le ∙ later (omega (arith, le, whole))
        ∙ sym (one_less at (prefix_len is_digit bs) (prefix_len is_digit (b ∷ bs) + 1) b bs (omega (arith, whole)))
    by false e later = one_on at b bs le ∙ rw e refl

pub long_here : (bytes : List ℕ) (at n : ℕ) → at < length bytes → n ≡ prefix_len is_digit (drop at bytes) → 18 < n → long_run_from at (drop at bytes) ≡ Some at
long_here bytes at n lt e h = by (drop at bytes) (rw e at h)
  where
    by : (rest : List ℕ) → 18 < prefix_len is_digit rest → long_run_from at rest ≡ Some at
    by [] k = absurd (omega arith)
    by (b ∷ bs) k = rw (lt-ltb 18 (prefix_len is_digit (b ∷ bs)) k) refl

pub short_here : (bytes : List ℕ) (at n : ℕ) → n ≡ prefix_len is_digit (drop at bytes) → n ≤ 18 → long_run_from (at + (n + 1)) (drop (at + (n + 1)) bytes) ≡ long_run_from at (drop at bytes)
short_here bytes at n e h =
    rw e (ap (long_run_from (at + (prefix_len is_digit (drop at bytes) + 1))) (sym (drop-drop (prefix_len is_digit (drop at bytes) + 1) at bytes)) ∙ sym (past at (drop at bytes) (rw e at h)))
