-- A text and its first tab.
use Rattle.std.proofs.Common.{◌≡◌, ℕ, suc, zero, ◌+◌, ◌-◌, ◌<◌, Bool, true, false, List, [], ◌∷◌, ◌++◌, length, take, drop, None, Some, refl, sym, ap, ◌∙◌, arith, length-drop, append_assoc}
use Rattle.std.specs.Prelude.{◌==◌, Option, option_map}
use Rattle.std.proofs.lemmas.List.{take_all}
use Rattle.std.proofs.lemmas.List.Splits.{slice_split-cons_yes, slice_split-cons_no}
use Rattle.std.specs.List.{onto_first}
use Rattle.bstr.specs.Find.{Nowhere, NoneBefore, Passes, is_byte}
use Rattle.gv_entry.specs.declared.entry.Eclass.{Eclass}
use Rattle.gv_base.specs.Paths.{is_part}
use Rattle.gv_entry.specs.Digests.{between_tabs, digest_in, eclasses_in, with_eclass}

head_no : (b : ℕ) (bs : List ℕ) → ((b == 9) ≡ true → ⊥) → between_tabs (b ∷ bs) ≡ onto_first b (between_tabs bs)
head_no b bs other = slice_split-cons_no (λ x. x == 9) b bs (by (b == 9) refl)
  where
    by : (t : Bool) → (b == 9) ≡ t → (b == 9) ≡ false
    by true e = absurd (other e)
    by false e = e

tab_at : (bytes : List ℕ) (k : ℕ) → k < length bytes → ((i : ℕ) → i < k → Passes (is_byte 9) bytes i → ⊥) → Passes (is_byte 9) bytes k
    → between_tabs bytes ≡ take k bytes ∷ between_tabs (drop (k + 1) bytes)
tab_at [] k within none here = absurd (omega (arith, within))
tab_at (b ∷ bs) zero within none here = slice_split-cons_yes (λ x. x == 9) b bs here
tab_at (b ∷ bs) (suc k) within none here =
    let over : suc k + 1 ≡ suc (k + 1) = omega arith in
    head_no b bs (λ h. none 0 (omega arith) h)
    ∙ rw over (ap (onto_first b) (tab_at bs k (omega (arith, within)) (λ i lt h. none (suc i) (omega (arith, lt)) h) here))

-- the same, as a slice `bytes[k + 1..]` is seen
pub tab_there : (bytes : List ℕ) (k : ℕ) → NoneBefore (Passes (is_byte 9) bytes) 0 (length bytes) k × Passes (is_byte 9) bytes k
    → between_tabs bytes ≡ take k bytes ∷ between_tabs (take (length bytes - (k + 1)) (drop (k + 1) bytes))
tab_there bytes k first =
    tab_at bytes k first.0.high (λ i lt. first.0.before i (omega arith) lt) first.1
    ∙ ap (λ r. take k bytes ∷ between_tabs r) (sym (take_all (length bytes - (k + 1)) (drop (k + 1) bytes) (omega (arith, length-drop (k + 1) bytes))))

no_tab_from : (bytes : List ℕ) → ((i : ℕ) → i < length bytes → Passes (is_byte 9) bytes i → ⊥) → between_tabs bytes ≡ bytes ∷ []
no_tab_from [] none = refl
no_tab_from (b ∷ bs) none =
    head_no b bs (λ h. none 0 (omega arith) h) ∙ ap (onto_first b) (no_tab_from bs (λ i lt h. none (suc i) (omega (arith, lt)) h))

pub no_tab : (bytes : List ℕ) → Nowhere (Passes (is_byte 9) bytes) 0 (length bytes) → between_tabs bytes ≡ bytes ∷ []
no_tab bytes none = no_tab_from bytes (λ i lt. none i (omega arith) lt)

-- one more pair was read
pub pair_read : (so_far : List Eclass) (all : Option (List Eclass)) (name text digest : List ℕ) (left first second : List (List ℕ))
    → option_map (λ more. so_far ++ more) (eclasses_in left) ≡ all → left ≡ name ∷ first → first ≡ text ∷ second → Some digest ≡ digest_in text → true ≡ is_part name
    → option_map (λ more. (so_far ++ record { name = name; digest = digest } ∷ []) ++ more) (eclasses_in second) ≡ all
pair_read so_far all name text digest left first second so is is' has part = by (eclasses_in second) (rw (is, is', sym has) at so)
  where
    by : (o : Option (List Eclass)) → option_map (λ more. so_far ++ more) (with_eclass name (Some digest) o) ≡ all
        → option_map (λ more. (so_far ++ record { name = name; digest = digest } ∷ []) ++ more) o ≡ all
    by (Some rest) h = ap Some (append_assoc so_far (record { name = name; digest = digest } ∷ []) rest) ∙ (rw (sym part) at h)
    by None h = h
