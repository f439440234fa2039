-- The laws of fronts. Pieces agree where they have one key, so agreeing is an equivalence; texts of the form that begin
-- each other have pieces that agree one by one, so nothing tells them apart in the order.
use Rattle.std.proofs.Common.{◌≡◌, ℕ, Bool, true, false, ◌&&◌, List, [], ◌∷◌, ◌++◌, map, refl, ap, sym, ◌∙◌, arith, ◌<◌, ◌⊎◌, inl, inr, if◌then◌else◌, Option, Some, None}
use Rattle.std.proofs.lemmas.Bool.{and_parts, and_from, false≢true, eq-eqb, eqb-true, cases_order}
use Rattle.std.proofs.lemmas.Cmp.{nat_cmp_total, on_total, then_total, tied_itself, eq_by_cmp_equiv}
use Rattle.std.proofs.lemmas.List.Folds.{list_all-append}
use Rattle.std.specs.Prelude.{◌==◌, option_to_list, option_map}
use Rattle.std.specs.Cmp.{IsTotalOrder, IsEquivalence, nat_cmp_is}
use Rattle.std.specs.List.{list_all}
use Rattle.std.specs.Ordering.{nat_cmp, ordering_then, is_eq, on, then_cmp, eq_by_cmp}
use Rattle.std.specs.declared.cmp.Ordering.{Ordering}
use Rattle.std.specs.declared.cmp.Ordering.TheVariants.{Less, Equal, Greater}
use Rattle.gv_version.specs.Bytes.{is_digit}
use Rattle.gv_version.specs.Laws.{IsFronts}
use Rattle.gv_version.specs.PieceReading.{cmp_piece, cmp_pieces, pieces_in}
use Rattle.gv_version.specs.Total.{Key, key, cmp_key, key_total, later_is, are_digits, numbers_all}
use Rattle.gv_version.specs.TotalDigits.{then_equal, is_less, is_equal, is_greater}
use Rattle.gv_version.specs.Form.{Parts, has_form, parts_of}
use Rattle.gv_version.specs.Order.{number_of, rank, cmp_later, cmp_suffix, compare}
use Rattle.gv_version.specs.Pieces.{Piece, first, later, letter, suffix, revision, number_pieces, pieces_of, agrees, is_front, begins}
use Rattle.gv_version.specs.declared.pieces.Kind.{Kind}
use Rattle.gv_version.proofs.OrderIs.{begins_itself}
use Rattle.gv_version.proofs.OrderLaw.{pieces_cmp}
use Rattle.gv_version.proofs.PartsLaw.{pieces_read}

abbrev FrontKey : Type 0
FrontKey = ℕ × Key × ℕ

abbrev front_key : Piece → FrontKey
front_key (first x) = (0, (0, [], number_of x), 0)
front_key (later x) = (1, key x, 0)
front_key (letter b) = (2, (0, [], b), 0)
front_key (suffix k x) = (3, (0, [], rank k), number_of x)
front_key (revision x) = (4, (0, [], number_of x), 0)

abbrev cmp_front : FrontKey → FrontKey → Ordering
cmp_front = then_cmp (on (λ (k : FrontKey). k.0) nat_cmp) (then_cmp (on (λ (k : FrontKey). k.1) cmp_key) (on (λ (k : FrontKey). k.2) nat_cmp))

front_total : IsTotalOrder cmp_front
front_total = then_total (on_total (λ (k : FrontKey). k.0) nat_cmp_total) (then_total (on_total (λ (k : FrontKey). k.1) key_total) (on_total (λ (k : FrontKey). k.2) nat_cmp_total))

alike : IsEquivalence (eq_by_cmp cmp_front)
alike = eq_by_cmp_equiv front_total

-- the digits of a component behind the first
abbrev has_digits : Piece → Bool
has_digits (later x) = list_all is_digit x
has_digits p = true

apart : (n m : ℕ) → (n ≡ m → ⊥) → (n == m) ≡ false
apart n m h = by (n == m) refl
  where
    by : (u : Bool) → (n == m) ≡ u → u ≡ false
    by true e = absurd (h (eqb-true n m e))
    by false e = refl

number_is : (n m : ℕ) → (n == m) ≡ is_eq (ordering_then (nat_cmp n m) Equal)
number_is n m = by (cases_order n m)
  where
    by : (n ≡ m) ⊎ ((n < m) ⊎ (m < n)) → (n == m) ≡ is_eq (ordering_then (nat_cmp n m) Equal)
    by (inl e) = rw (is_equal n m e) (eq-eqb n m e)
    by (inr (inl lt)) = rw (is_less n m lt) (apart n m (λ e. absurd (omega (arith, e, lt))))
    by (inr (inr gt)) = rw (is_greater n m gt) (apart n m (λ e. absurd (omega (arith, e, gt))))

agrees_is : (p q : Piece) → has_digits p ≡ true → has_digits q ≡ true → agrees p q ≡ eq_by_cmp cmp_front (front_key p) (front_key q)
agrees_is (first x) (first y) hp hq = number_is (number_of x) (number_of y)
agrees_is (first x) (later y) hp hq = refl
agrees_is (first x) (letter b) hp hq = refl
agrees_is (first x) (suffix l y) hp hq = refl
agrees_is (first x) (revision y) hp hq = refl
agrees_is (later x) (first y) hp hq = refl
agrees_is (later x) (later y) hp hq = ap is_eq (later_is x y hp hq ∙ sym (then_equal (cmp_key (key x) (key y))))
agrees_is (later x) (letter b) hp hq = refl
agrees_is (later x) (suffix l y) hp hq = refl
agrees_is (later x) (revision y) hp hq = refl
agrees_is (letter a) (first y) hp hq = refl
agrees_is (letter a) (later y) hp hq = refl
agrees_is (letter a) (letter b) hp hq = number_is a b
agrees_is (letter a) (suffix l y) hp hq = refl
agrees_is (letter a) (revision y) hp hq = refl
agrees_is (suffix k x) (first y) hp hq = refl
agrees_is (suffix k x) (later y) hp hq = refl
agrees_is (suffix k x) (letter b) hp hq = refl
agrees_is (suffix k x) (suffix l y) hp hq = refl
agrees_is (suffix k x) (revision y) hp hq = refl
agrees_is (revision x) (first y) hp hq = refl
agrees_is (revision x) (later y) hp hq = refl
agrees_is (revision x) (letter b) hp hq = refl
agrees_is (revision x) (suffix l y) hp hq = refl
agrees_is (revision x) (revision y) hp hq = number_is (number_of x) (number_of y)

agree_on : (p q r : Piece) → has_digits p ≡ true → has_digits q ≡ true → has_digits r ≡ true → agrees p q ≡ true → agrees q r ≡ true → agrees p r ≡ true
agree_on p q r hp hq hr pq qr =
    agrees_is p r hp hr ∙ alike.congr (front_key p) (front_key q) (front_key r) (sym (agrees_is p q hp hq) ∙ pq) ∙ sym (agrees_is q r hq hr) ∙ qr

fronts_on : (ps qs rs : List Piece) → list_all has_digits ps ≡ true → list_all has_digits qs ≡ true → list_all has_digits rs ≡ true
    → is_front ps qs ≡ true → is_front qs rs ≡ true → is_front ps rs ≡ true
fronts_on [] qs rs hp hq hr pq qr = refl
fronts_on (p ∷ ps) [] rs hp hq hr pq qr = absurd (false≢true pq)
fronts_on (p ∷ ps) (q ∷ qs) [] hp hq hr pq qr = absurd (false≢true qr)
fronts_on (p ∷ ps) (q ∷ qs) (r ∷ rs) hp hq hr pq qr =
    let dp = and_parts (has_digits p) (list_all has_digits ps) hp in
    let dq = and_parts (has_digits q) (list_all has_digits qs) hq in
    let dr = and_parts (has_digits r) (list_all has_digits rs) hr in
    let a = and_parts (agrees p q) (is_front ps qs) pq in
    let b = and_parts (agrees q r) (is_front qs rs) qr in
    and_from (agrees p r) (is_front ps rs) (agree_on p q r dp.0 dq.0 dr.0 a.0 b.0) (fronts_on ps qs rs dp.1 dq.1 dr.1 a.1 b.1)

-- The pieces of every text have such digits.
laters_have : (xs : List (List ℕ)) → are_digits xs ≡ true → list_all has_digits (map later xs) ≡ true
laters_have [] h = refl
laters_have (x ∷ xs) h =
    let both = and_parts (list_all is_digit x) (are_digits xs) h in
    and_from (list_all is_digit x) (list_all has_digits (map later xs)) both.0 (laters_have xs both.1)

numbers_have : (xs : List (List ℕ)) → are_digits xs ≡ true → list_all has_digits (number_pieces xs) ≡ true
numbers_have [] h = refl
numbers_have (x ∷ xs) h = laters_have xs (and_parts (list_all is_digit x) (are_digits xs) h).1

letter_has : (l : Option ℕ) → list_all has_digits (option_to_list (option_map letter l)) ≡ true
letter_has None = refl
letter_has (Some b) = refl

suffixes_have : (ss : List (Kind × List ℕ)) → list_all has_digits (map (λ s. suffix s.0 s.1) ss) ≡ true
suffixes_have [] = refl
suffixes_have (s ∷ ss) = suffixes_have ss

revision_has : (r : Option (List ℕ)) → list_all has_digits (option_to_list (option_map revision r)) ≡ true
revision_has None = refl
revision_has (Some x) = refl

joined_have : (xs ys : List Piece) → list_all has_digits xs ≡ true → list_all has_digits ys ≡ true → list_all has_digits (xs ++ ys) ≡ true
joined_have xs ys hx hy = list_all-append has_digits xs ys ∙ and_from (list_all has_digits xs) (list_all has_digits ys) hx hy

pieces_have : (v : Parts) → are_digits v.numbers ≡ true → list_all has_digits (pieces_of v) ≡ true
pieces_have v h =
    joined_have (number_pieces v.numbers) _ (numbers_have v.numbers h)
    (joined_have (option_to_list (option_map letter v.letter)) _ (letter_has v.letter)
    (joined_have (map (λ s. suffix s.0 s.1) v.suffixes) (option_to_list (option_map revision v.revision)) (suffixes_have v.suffixes) (revision_has v.revision)))

all_have : (a : List ℕ) → list_all has_digits (pieces_of (parts_of a)) ≡ true
all_have a = pieces_have (parts_of a) (numbers_all a)

-- Pieces that agree are equal in the order.
tied : (o : Ordering) → is_eq o ≡ true → o ≡ Equal
tied Less h = absurd (false≢true h)
tied Equal h = refl
tied Greater h = absurd (false≢true h)

agreeing : (p q : Piece) → agrees p q ≡ true → cmp_piece p q ≡ Equal
agreeing (first x) (first y) h = is_equal (number_of x) (number_of y) (eqb-true (number_of x) (number_of y) h)
agreeing (first x) (later y) h = absurd (false≢true h)
agreeing (first x) (letter b) h = absurd (false≢true h)
agreeing (first x) (suffix l y) h = absurd (false≢true h)
agreeing (first x) (revision y) h = absurd (false≢true h)
agreeing (later x) (first y) h = absurd (false≢true h)
agreeing (later x) (later y) h = tied (cmp_later x y) h
agreeing (later x) (letter b) h = absurd (false≢true h)
agreeing (later x) (suffix l y) h = absurd (false≢true h)
agreeing (later x) (revision y) h = absurd (false≢true h)
agreeing (letter a) (first y) h = absurd (false≢true h)
agreeing (letter a) (later y) h = absurd (false≢true h)
agreeing (letter a) (letter b) h = is_equal a b (eqb-true a b h)
agreeing (letter a) (suffix l y) h = absurd (false≢true h)
agreeing (letter a) (revision y) h = absurd (false≢true h)
agreeing (suffix k x) (first y) h = absurd (false≢true h)
agreeing (suffix k x) (later y) h = absurd (false≢true h)
agreeing (suffix k x) (letter b) h = absurd (false≢true h)
agreeing (suffix k x) (suffix l y) h = tied (cmp_suffix (k, x) (l, y)) h
agreeing (suffix k x) (revision y) h = absurd (false≢true h)
agreeing (revision x) (first y) h = absurd (false≢true h)
agreeing (revision x) (later y) h = absurd (false≢true h)
agreeing (revision x) (letter b) h = absurd (false≢true h)
agreeing (revision x) (suffix l y) h = absurd (false≢true h)
agreeing (revision x) (revision y) h = is_equal (number_of x) (number_of y) (eqb-true (number_of x) (number_of y) h)

both_fronts : (ps qs : List Piece) → is_front ps qs ≡ true → is_front qs ps ≡ true → cmp_pieces ps qs ≡ Equal
both_fronts [] [] h k = refl
both_fronts [] (q ∷ qs) h k = absurd (false≢true k)
both_fronts (p ∷ ps) [] h k = absurd (false≢true h)
both_fronts (p ∷ ps) (q ∷ qs) h k =
    let a = and_parts (agrees p q) (is_front ps qs) h in
    let b = and_parts (agrees q p) (is_front qs ps) k in
    rw (agreeing p q a.0) (both_fronts ps qs a.1 b.1)

equal_fronts : (a b : List ℕ) → has_form a ≡ true → has_form b ≡ true → begins a b ≡ true → begins b a ≡ true → compare a b ≡ Equal
equal_fronts a b fa fb h k =
    sym (pieces_cmp a b fa fb) ∙ ap (λ ps. cmp_pieces ps (pieces_in b)) (pieces_read a fa) ∙ ap (cmp_pieces (pieces_of (parts_of a))) (pieces_read b fb)
    ∙ both_fronts (pieces_of (parts_of a)) (pieces_of (parts_of b)) h k

pub are_fronts : IsFronts begins
are_fronts = record {
  reflexive = begins_itself;
  transitive = λ a b c h k. fronts_on (pieces_of (parts_of a)) (pieces_of (parts_of b)) (pieces_of (parts_of c)) (all_have a) (all_have b) (all_have c) h k;
  equal = equal_fronts;
}
