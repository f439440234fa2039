-- A flag is found among the flags of a query, which ascend, by a search in halves.
use Rattle.std.proofs.Common.{◌≡◌, ℕ, suc, zero, ◌+◌, ◌*◌, ◌<◌, ◌≤◌, Bool, true, false, if◌then◌else◌, List, [], ◌∷◌, length, get_or, refl, sym, ap, subst, ◌∙◌, arith, ⊎_elim}
use Rattle.std.proofs.lemmas.Bool.{cases_lt}
use Rattle.std.proofs.lemmas.List.Elements.{All-from_recursion}
use Rattle.std.specs.declared.cmp.Ordering.{Ordering}
use Rattle.std.specs.declared.cmp.Ordering.TheVariants.{Less, Equal, Greater}
use Rattle.std.specs.List.{HoldsAt}
use Rattle.std.specs.List.Sorted.{IsNonDecreasingBy, IsPartitionPoint, IsStrictlySortedBy}
use Rattle.std.specs.Ordering.{is_eq, ordering_index, ordering_reverse}
use Rattle.std.specs.Str.{bytes_eq}
use Rattle.gv_base.specs.Laws.{ByteOrderLaw}
use Rattle.gv_base.specs.Order.{IsAscending, byte_cmp}
use Rattle.gv_lower.specs.QueryGates.{input_or}
use Rattle.gv_lower.specs.TreeGates.{signed}

module _ (law : ByteOrderLaw) (flag : List ℕ) where
  behind : (f g : List ℕ) → byte_cmp flag g ≡ Less → ordering_index (byte_cmp g flag) ≡ 2
  behind f g less = ap ordering_index (law.total.antisymm g flag ∙ ap ordering_reverse less)

  -- of two flags in order, the second isn't before the flag where the first isn't
  rise : (f g : List ℕ) → byte_cmp f g ≡ Less → (o : Ordering) → byte_cmp f flag ≡ o → ordering_index o ≤ ordering_index (byte_cmp g flag)
  rise f g less Less e = omega arith
  rise f g less Equal e = omega (arith, behind f g (sym (law.total.congr f flag g e) ∙ less))
  rise f g less Greater e = omega (arith, behind f g (law.total.trans flag f g (law.total.antisymm flag f ∙ ap ordering_reverse e) less))

  rises : (flags : List (List ℕ)) → IsAscending flags → IsNonDecreasingBy (λ y. ordering_index (byte_cmp y flag)) flags
  unfolding IsStrictlySortedBy
  rises [] up i j d le lt = absurd (omega arith)
  rises (f ∷ fs) up zero zero d le lt = omega arith
  rises (f ∷ fs) up zero (suc j) d le lt =
      rise f (get_or fs j d) (All-from_recursion (λ y. byte_cmp f y ≡ Less) fs up.0 j d (omega (arith, lt))) (byte_cmp f flag) refl
  rises (f ∷ fs) up (suc i) zero d le lt = absurd (omega arith)
  rises (f ∷ fs) up (suc i) (suc j) d le lt = rises fs up.1 i j d (omega (arith, le)) (omega (arith, lt))

  other : (o : Ordering) → (o ≡ Equal → ⊥) → is_eq o ≡ false
  other Less n = refl
  other Equal n = absurd (n refl)
  other Greater n = refl

  differs : (f : List ℕ) → (byte_cmp f flag ≡ Equal → ⊥) → bytes_eq f flag ≡ false
  differs f n = sym (law.equal f flag) ∙ other (byte_cmp f flag) n

  same : (f : List ℕ) → byte_cmp f flag ≡ Equal → bytes_eq f flag ≡ true
  same f e = sym (law.equal f flag) ∙ ap is_eq e

  less≢equal : Less ≡ Equal → ⊥
  less≢equal e = omega (arith, ap ordering_index e)

  greater≢equal : Greater ≡ Equal → ⊥
  greater≢equal e = omega (arith, ap ordering_index e)

  there : (n : ℕ) (flags : List (List ℕ)) → IsAscending flags → (i : ℕ) → i < length flags → HoldsAt (λ y. byte_cmp y flag ≡ Equal) flags i → (preferred : Bool) (none : ℕ) → input_or n flags flag preferred none ≡ signed preferred (2 * (n + i))
  unfolding IsStrictlySortedBy
  there n [] up i lt at preferred none = absurd (omega arith)
  there n (f ∷ fs) up zero lt at preferred none =
      let turned : 2 * n ≡ 2 * (n + 0) = omega arith in ap (λ b. if b then signed preferred (2 * n) else input_or (n + 1) fs flag preferred none) (same f (at [])) ∙ ap (signed preferred) turned
  there n (f ∷ fs) up (suc i) lt at preferred none =
      let turned : 2 * (n + 1 + i) ≡ 2 * (n + suc i) = omega arith in
      let before : byte_cmp f (get_or fs i []) ≡ Less = All-from_recursion (λ y. byte_cmp f y ≡ Less) fs up.0 i [] (omega (arith, lt)) in
      let found : get_or fs i [] ≡ flag = law.exact (get_or fs i []) flag (at []) in
      ap (λ b. if b then signed preferred (2 * n) else input_or (n + 1) fs flag preferred none) (differs f (λ e. less≢equal (sym (subst (λ g. byte_cmp f g ≡ Less) found before) ∙ e)))
      ∙ (there (n + 1) fs up.1 i (omega (arith, lt)) at preferred none ∙ ap (signed preferred) turned)

  absent : (n : ℕ) (flags : List (List ℕ)) → ((k : ℕ) (d : List ℕ) → k < length flags → byte_cmp (get_or flags k d) flag ≡ Equal → ⊥) → (preferred : Bool) (none : ℕ) → input_or n flags flag preferred none ≡ none
  absent n [] apart preferred none = refl
  absent n (f ∷ fs) apart preferred none =
      ap (λ b. if b then signed preferred (2 * n) else input_or (n + 1) fs flag preferred none) (differs f (apart 0 [] (omega arith)))
      ∙ absent (n + 1) fs (λ k d lt. apart (suc k) d (omega (arith, lt))) preferred none

  pub input_there : (flags : List (List ℕ)) → IsAscending flags → (i : ℕ) → i < length flags → HoldsAt (λ y. byte_cmp y flag ≡ Equal) flags i → (preferred : Bool) (none : ℕ) → input_or 0 flags flag preferred none ≡ signed preferred (2 * i)
  input_there flags up i lt at preferred none = let turned : 2 * (0 + i) ≡ 2 * i = omega arith in there 0 flags up i lt at preferred none ∙ ap (signed preferred) turned

  pub input_absent : (flags : List (List ℕ)) → IsAscending flags → (i : ℕ)
      → (IsNonDecreasingBy (λ y. ordering_index (byte_cmp y flag)) flags → IsPartitionPoint (λ y. byte_cmp y flag ≡ Less) (λ y. byte_cmp y flag ≡ Greater) flags i) → (preferred : Bool) (none : ℕ) → input_or 0 flags flag preferred none ≡ none
  input_absent flags up i parted preferred none = absent 0 flags apart preferred none
    where
      parts : IsPartitionPoint (λ y. byte_cmp y flag ≡ Less) (λ y. byte_cmp y flag ≡ Greater) flags i
      parts = parted (rises flags up)

      apart : (k : ℕ) (d : List ℕ) → k < length flags → byte_cmp (get_or flags k d) flag ≡ Equal → ⊥
      apart k d lt e = ⊎_elim (λ l. less≢equal (sym (parts.0 k d (omega arith) l) ∙ e)) (λ l. greater≢equal (sym (parts.1 k d l lt) ∙ e)) (cases_lt k i)
