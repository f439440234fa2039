-- What is so of gates is found among the bits of the query's flags.
use Rattle.std.proofs.Common.{◌≡◌, ◌≢◌, ◌⊎◌, inl, inr, ℕ, Bool, true, false, List, [], ◌∷◌, length, refl, sym, ap, ◌∙◌, Option, Some, None}
use Rattle.std.proofs.lemmas.Bool.{false≢true}
use Rattle.std.specs.Option.{MatchOption}
use Rattle.gv_expr.specs.Dep.{Dep}
use Rattle.gv_expr.specs.Required.{Req}
use Rattle.gv_base.specs.Least.{HasNone, IsLeast, Lesser}
use Rattle.gv_entry.specs.Allowed.{Parent, is_allowed, is_failing}
use Rattle.gv_entry.specs.Laws.{LeastLaw}
use Rattle.gv_entry.specs.Queries.{class_flags, required_flags}
use Rattle.gv_logic.specs.Circuits.{Circuit, value}
use Rattle.gv_lower.specs.QueryGates.{allowed_gates, failing_gates}
use Rattle.gv_cert.specs.declared.claim.Claim.{Claim}
use Rattle.gv_cert.specs.declared.claim.Claim.TheVariants.{Refuted, Found}
use Rattle.gv_query.specs.Truth.{IsSo}
use Rattle.gv_checks.specs.Asked.{asked_flags, asked_gates, asks, found_bits, least_asked}

-- the law of the layer below
abbrev pub ValueLaw : Type 0
ValueLaw =
    ((c : Parent) (flags : List (List ℕ)) (required : List Req) (bits : List Bool) → length bits ≡ length flags
    → value (allowed_gates c required flags) bits ≡ is_allowed c required flags bits)
    × ((c : Parent) (flags : List (List ℕ)) (required : List Req) (class : List Dep) (bits : List Bool) → length bits ≡ length flags
    → value (failing_gates c required class flags) bits ≡ is_failing c required class flags bits)

-- the gates have a bit for each flag, and the value that the test has
inputs_are : (c : Parent) (required : List Req) (class : Option (List Dep)) → (asked_gates c required class).inputs ≡ length (asked_flags c required class)
inputs_are c required None = refl
inputs_are c required (Some class) = refl

value_is : ValueLaw → (c : Parent) (required : List Req) (class : Option (List Dep)) (bits : List Bool) → length bits ≡ length (asked_flags c required class)
    → value (asked_gates c required class) bits ≡ asks c required class bits
value_is values c required None bits long = values.0 c (required_flags c required) required bits long
value_is values c required (Some class) bits long = values.1 c (class_flags c required class) required class bits long

-- two lists of bits are the same or not
head_of : Bool → List Bool → Bool
head_of other [] = other
head_of other (x ∷ xs) = x

tail_of : List Bool → List Bool
tail_of [] = []
tail_of (x ∷ xs) = xs

abbrev is_empty : List Bool → Bool
is_empty [] = true
is_empty (x ∷ xs) = false

same_bit_or_not : (x y : Bool) → (x ≡ y) ⊎ (x ≢ y)
same_bit_or_not true true = inl refl
same_bit_or_not false false = inl refl
same_bit_or_not true false = inr (λ e. false≢true (sym e))
same_bit_or_not false true = inr (λ e. false≢true e)

same_or_not : (xs ys : List Bool) → (xs ≡ ys) ⊎ (xs ≢ ys)
same_or_not [] [] = inl refl
same_or_not [] (y ∷ ys) = inr (λ e. false≢true (sym (ap is_empty e)))
same_or_not (x ∷ xs) [] = inr (λ e. false≢true (ap is_empty e))
same_or_not (x ∷ xs) (y ∷ ys) = by (same_bit_or_not x y) (same_or_not xs ys)
  where
    by : (x ≡ y) ⊎ (x ≢ y) → (xs ≡ ys) ⊎ (xs ≢ ys) → ((x ∷ xs) ≡ (y ∷ ys)) ⊎ ((x ∷ xs) ≢ (y ∷ ys))
    by (inl e) (inl f) = inl (ap (λ b. b ∷ xs) e ∙ ap (λ bs. y ∷ bs) f)
    by (inl e) (inr n) = inr (λ f. n (by_tails f))
      where
        by_tails : (x ∷ xs) ≡ (y ∷ ys) → xs ≡ ys
        by_tails f = cc
    by (inr n) rest = inr (λ f. n (by_heads f))
      where
        by_heads : (x ∷ xs) ≡ (y ∷ ys) → x ≡ y
        by_heads f = cc

-- of two lists each is not lesser than the other
not_both : (as_ bs : List Bool) → Lesser as_ bs → Lesser bs as_ → ⊥
not_both [] bs h k = h
not_both (a ∷ as_) [] h k = h
not_both (a ∷ as_) (b ∷ bs) (inl h) (inl k) = false≢true (sym k.0 ∙ h.1)
not_both (a ∷ as_) (b ∷ bs) (inl h) (inr k) = false≢true (sym h.0 ∙ (sym k.0 ∙ h.1))
not_both (a ∷ as_) (b ∷ bs) (inr h) (inl k) = false≢true (sym k.0 ∙ (sym h.0 ∙ k.1))
not_both (a ∷ as_) (b ∷ bs) (inr h) (inr k) = not_both as_ bs h.1 k.1

-- there is one least
only_least : (test : List Bool → Bool) (n : ℕ) (as_ bs : List Bool) → IsLeast test n as_ → IsLeast test n bs → as_ ≡ bs
only_least test n as_ bs a b = by (same_or_not as_ bs)
  where
    by : (as_ ≡ bs) ⊎ (as_ ≢ bs) → as_ ≡ bs
    by (inl e) = e
    by (inr differs) = absurd (not_both as_ bs (a.lesser bs b.size b.has (λ e. differs (sym e))) (b.lesser as_ a.size a.has differs))

module _ (values : ValueLaw) (law : LeastLaw) (c : Parent) (required : List Req) (class : Option (List Dep)) where
  abbrev test : List Bool → Bool
  test = asks c required class

  abbrev n : ℕ
  n = length (asked_flags c required class)

  abbrev gates : Circuit
  gates = asked_gates c required class

  long_of : (bits : List Bool) → length bits ≡ gates.inputs → length bits ≡ n
  long_of bits long = long ∙ inputs_are c required class

  long_for : (bits : List Bool) → length bits ≡ n → length bits ≡ gates.inputs
  long_for bits long = long ∙ sym (inputs_are c required class)

  true_at : (bits : List Bool) → length bits ≡ n → test bits ≡ true → value gates bits ≡ true
  true_at bits long h = value_is values c required class bits long ∙ h

  -- what is least for the gates is least for the test
  least_by_test : (bits : List Bool) → IsLeast (value gates) gates.inputs bits → IsLeast test n bits
  least_by_test bits is = record {
    size = long_of bits is.size;
    has = sym (value_is values c required class bits (long_of bits is.size)) ∙ is.has;
    lesser = λ other long h differs. is.lesser other (long_for other long) (true_at other long h) differs;
  }

  none_found : HasNone (value gates) gates.inputs → (found : Option (List Bool)) → MatchOption found (HasNone test n) (IsLeast test n) → found ≡ None
  none_found none None is = refl
  none_found none (Some bits) is = absurd (none bits (long_for bits is.size) (true_at bits is.size is.has))

  least_found : (bits : List Bool) → IsLeast (value gates) gates.inputs bits → (found : Option (List Bool)) → MatchOption found (HasNone test n) (IsLeast test n) → found ≡ Some bits
  least_found bits is None none = absurd (none bits (least_by_test bits is).size (least_by_test bits is).has)
  least_found bits is (Some other) least_other = ap Some (only_least test n other bits least_other (least_by_test bits is))

  pub found_by_gates : (claim : Claim) → IsSo gates claim → least_asked c required class ≡ found_bits claim
  found_by_gates (Refuted log) so = none_found so (least_asked c required class) (law test n)
  found_by_gates (Found bits log) so = least_found bits so (least_asked c required class) (law test n)
