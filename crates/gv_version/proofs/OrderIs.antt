-- The laws of the version order and of fronts, in their own words.
use Rattle.std.proofs.Common.{◌≡◌, ℕ, Bool, true, false, ◌||◌, List, [], ◌∷◌, refl, ap, sym, ◌∙◌, if◌then◌else◌}
use Rattle.std.proofs.lemmas.Bool.{and_from, false≢true, eq-eqb}
use Rattle.std.proofs.lemmas.Cmp.{nat_cmp_total, nat_list_cmp_total, on_total, upto, tied_itself, eq_by_cmp_equiv}
use Rattle.std.specs.Cmp.{IsEquivalence}
use Rattle.std.specs.Cmp.Lexicographic.{slice_cmp}
use Rattle.std.specs.Ordering.{nat_cmp, ordering_then, ordering_reverse, is_eq, is_le, is_gt, on, eq_by_cmp}
use Rattle.std.specs.declared.cmp.Ordering.{Ordering}
use Rattle.std.specs.declared.cmp.Ordering.TheVariants.{Less, Equal, Greater}
use Rattle.gv_version.specs.Bytes.{begins_with}
use Rattle.gv_version.specs.Laws.{IsOrder, IsSameness}
use Rattle.gv_version.specs.Total.{by_revision, keys_but_revision, keys_but_revision_total, numbers_all, but_revision_is, version_total}
use Rattle.gv_version.specs.Form.{parts_of}
use Rattle.gv_version.specs.Order.{number_of, is_zero, stripped, rank, cmp_later, cmp_but_revision, compare, same_but_revision}
use Rattle.gv_version.specs.Pieces.{Piece, first, later, letter, suffix, revision, pieces_of, agrees, is_front, begins}

same_is : (a b : List ℕ) → same_but_revision a b ≡ eq_by_cmp (on parts_of keys_but_revision) a b
same_is a b = ap is_eq (but_revision_is (parts_of a) (parts_of b) (numbers_all a) (numbers_all b))

le_not_greater : (o : Ordering) → is_le o ≡ true → is_gt o ≡ false
le_not_greater Less h = refl
le_not_greater Equal h = refl
le_not_greater Greater h = absurd (false≢true h)

not_greater_le : (o : Ordering) → is_gt o ≡ false → is_le o ≡ true
not_greater_le Less h = refl
not_greater_le Equal h = refl
not_greater_le Greater h = absurd (false≢true (sym h))

one_way : (o : Ordering) → (is_le o || is_le (ordering_reverse o)) ≡ true
one_way Less = refl
one_way Equal = refl
one_way Greater = refl

both_ways : (o : Ordering) → is_le o ≡ true → is_le (ordering_reverse o) ≡ true → o ≡ Equal
both_ways Less h k = absurd (false≢true k)
both_ways Equal h k = refl
both_ways Greater h k = absurd (false≢true h)

pub is_order : IsOrder compare
is_order =
    let t = version_total in
    record {
      reflexive = λ a. tied_itself t a;
      total = λ a b. ap (λ o. is_le (compare a b) || is_le o) (t.antisymm b a) ∙ one_way (compare a b);
      antisymmetric = λ a b h k. both_ways (compare a b) h (ap is_le (sym (t.antisymm b a)) ∙ k);
      transitive = λ a b c h k. not_greater_le (compare a c) (upto t a b c (le_not_greater (compare a b) h) (le_not_greater (compare b c) k));
      reversed = λ a b. t.antisymm b a;
      alike = λ a b c h. t.congr a b c h;
    }

sameness : IsEquivalence (eq_by_cmp (on parts_of keys_but_revision))
sameness = eq_by_cmp_equiv (on_total parts_of keys_but_revision_total)

pub is_sameness : IsSameness same_but_revision
is_sameness = record {
  reflexive = λ a. same_is a a ∙ sameness.refl a;
  symmetric = λ a b h. same_is b a ∙ sameness.symm b a ∙ sym (same_is a b) ∙ h;
  transitive = λ a b c h k. same_is a c ∙ sameness.congr a b c (sym (same_is a b) ∙ h) ∙ sym (same_is b c) ∙ k;
}

first_equal : (o p : Ordering) → ordering_then o p ≡ Equal → is_eq o ≡ true
first_equal Less p h = ap is_eq h
first_equal Equal p h = refl
first_equal Greater p h = ap is_eq h

pub equal_is_same : (a b : List ℕ) → compare a b ≡ Equal → same_but_revision a b ≡ true
equal_is_same a b h = first_equal (cmp_but_revision (parts_of a) (parts_of b)) (by_revision (parts_of a) (parts_of b)) h

-- A version begins itself.
later_itself : (x : List ℕ) → cmp_later x x ≡ Equal
later_itself x = by (begins_with is_zero x || begins_with is_zero x)
  where
    by : (u : Bool) → (if u then slice_cmp nat_cmp (stripped x) (stripped x) else nat_cmp (number_of x) (number_of x)) ≡ Equal
    by true = tied_itself nat_list_cmp_total (stripped x)
    by false = tied_itself nat_cmp_total (number_of x)

agrees_itself : (p : Piece) → agrees p p ≡ true
agrees_itself (first x) = eq-eqb (number_of x) (number_of x) refl
agrees_itself (later x) = ap is_eq (later_itself x)
agrees_itself (letter b) = eq-eqb b b refl
agrees_itself (suffix k x) = rw (tied_itself nat_cmp_total (rank k), tied_itself nat_cmp_total (number_of x)) refl
agrees_itself (revision x) = eq-eqb (number_of x) (number_of x) refl

front_itself : (ps : List Piece) → is_front ps ps ≡ true
front_itself [] = refl
front_itself (p ∷ ps) = and_from (agrees p p) (is_front ps ps) (agrees_itself p) (front_itself ps)

pub begins_itself : (bytes : List ℕ) → begins bytes bytes ≡ true
begins_itself bytes = front_itself (pieces_of (parts_of bytes))
