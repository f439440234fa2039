-- The function `least` gives the least assignment with the property, and nothing only where there is none.
use Rattle.std.proofs.Common.{◌≡◌, ◌≢◌, ℕ, suc, zero, Bool, true, false, List, [], ◌∷◌, ◌++◌, length, refl, ap, sym, ◌∙◌, subst, MatchOption, append_assoc, append-nil, arith, inl, inr, Option, Some, None, if◌then◌else◌}
use Rattle.std.proofs.lemmas.Bool.{false≢true}
use Rattle.gv_base.specs.Least.{Lesser, IsLeast, HasNone}
use Rattle.gv_entry.specs.Least.{least_behind, least}

-- what a search behind the first bits says
abbrev pub Said : (List Bool → Bool) → ℕ → List Bool → Option (List Bool) → Type 0
Said test n first (Some whole) = (rest : List Bool) × (whole ≡ first ++ rest) × IsLeast (λ b. test (first ++ b)) n rest
Said test n first None = HasNone (λ b. test (first ++ b)) n

no_bits : (bits : List Bool) → length bits ≡ 0 → bits ≡ []
no_bits [] e = refl
no_bits (b ∷ bs) e = absurd (omega (arith, e))

said_here : (test : List Bool → Bool) (first : List Bool) (b : Bool) → test first ≡ b → Said test 0 first (if b then Some first else None)
said_here test first true e = (
  [],
  sym (append-nil first),
  record {
    size = refl;
    has = ap test (append-nil first) ∙ e;
    lesser = λ other size t differs. absurd (differs (no_bits other size));
  },
)
said_here test first false e = none_at
  where
    none_at : HasNone (λ b. test (first ++ b)) 0
    none_at [] size t = false≢true (sym e ∙ (ap test (sym (append-nil first)) ∙ t))
    none_at (b ∷ bits) size t = absurd (omega (arith, size))

module _ (test : List Bool → Bool) (n : ℕ) (first : List Bool) where
  behind : (x : Bool) (rest : List Bool) → test ((first ++ x ∷ []) ++ rest) ≡ test (first ++ x ∷ rest)
  behind x rest = ap test (append_assoc first (x ∷ []) rest)

  none_here : HasNone (λ b. test ((first ++ false ∷ []) ++ b)) n → HasNone (λ b. test ((first ++ true ∷ []) ++ b)) n → HasNone (λ b. test (first ++ b)) (suc n)
  none_here off on [] e t = absurd (omega (arith, e))
  none_here off on (false ∷ o) e t = off o (omega (arith, e)) (behind false o ∙ t)
  none_here off on (true ∷ o) e t = on o (omega (arith, e)) (behind true o ∙ t)

  -- behind an off bit
  off_least : (rest : List Bool) → IsLeast (λ b. test ((first ++ false ∷ []) ++ b)) n rest → IsLeast (λ b. test (first ++ b)) (suc n) (false ∷ rest)
  off_least rest h = record {
    size = omega (arith, h.size);
    has = sym (behind false rest) ∙ h.has;
    lesser = lesser_off;
  }
    where
      lesser_off : (other : List Bool) → length other ≡ suc n → test (first ++ other) ≡ true → other ≢ false ∷ rest → Lesser (false ∷ rest) other
      lesser_off [] e t d = absurd (omega (arith, e))
      lesser_off (false ∷ o) e t d = inr (refl, h.lesser o (omega (arith, e)) (behind false o ∙ t) (λ same. d (ap (λ x. false ∷ x) same)))
      lesser_off (true ∷ o) e t d = inl (refl, refl)

  -- behind an on bit, where there is none behind an off bit
  on_least : HasNone (λ b. test ((first ++ false ∷ []) ++ b)) n → (rest : List Bool) → IsLeast (λ b. test ((first ++ true ∷ []) ++ b)) n rest → IsLeast (λ b. test (first ++ b)) (suc n) (true ∷ rest)
  on_least off rest h = record {
    size = omega (arith, h.size);
    has = sym (behind true rest) ∙ h.has;
    lesser = lesser_on;
  }
    where
      lesser_on : (other : List Bool) → length other ≡ suc n → test (first ++ other) ≡ true → other ≢ true ∷ rest → Lesser (true ∷ rest) other
      lesser_on [] e t d = absurd (omega (arith, e))
      lesser_on (false ∷ o) e t d = absurd (off o (omega (arith, e)) (behind false o ∙ t))
      lesser_on (true ∷ o) e t d = inr (refl, h.lesser o (omega (arith, e)) (behind true o ∙ t) (λ same. d (ap (λ x. true ∷ x) same)))

  behind_on : HasNone (λ b. test ((first ++ false ∷ []) ++ b)) n → (found : Option (List Bool)) → Said test n (first ++ true ∷ []) found → Said test (suc n) first found
  behind_on off (Some whole) on = (true ∷ on.0, on.1 ∙ append_assoc first (true ∷ []) on.0, on_least off on.0 on.2)
  behind_on off None on = none_here off on

  either : (found later : Option (List Bool)) → Said test n (first ++ false ∷ []) found → Said test n (first ++ true ∷ []) later
      → Said test (suc n) first (elim found [ Some bits ↦ Some bits | None ↦ later ])
  either (Some whole) later off on = (false ∷ off.0, off.1 ∙ append_assoc first (false ∷ []) off.0, off_least off.0 off.2)
  either None later off on = behind_on off later on

said : (test : List Bool → Bool) (n : ℕ) (first : List Bool) → Said test n first (least_behind test first n)
said test zero first = said_here test first (test first) refl
said test (suc n) first = either test n first (least_behind test (first ++ false ∷ []) n) (least_behind test (first ++ true ∷ []) n)
    (said test n (first ++ false ∷ [])) (said test n (first ++ true ∷ []))

pub least_is : (test : List Bool → Bool) (n : ℕ) → Said test n [] (least test n)
least_is test n = said test n []

found : (test : List Bool → Bool) (n : ℕ) (o : Option (List Bool)) → Said test n [] o → MatchOption o (HasNone test n) (IsLeast test n)
found test n (Some whole) said = subst (IsLeast test n) (sym said.1) said.2
found test n None said = said

pub least_found : (test : List Bool → Bool) (n : ℕ) → MatchOption (least test n) (HasNone test n) (IsLeast test n)
least_found test n = found test n (least test n) (least_is test n)
