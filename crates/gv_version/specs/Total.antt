-- That the order of versions is total, as std's sorts and ordered maps take it. A proof and not a definition: the
-- version order is the order of keys, lists of numbers and texts that are compared one after another.
use Rattle.std.proofs.Common.{◌≡◌, ℕ, Bool, true, false, ◌&&◌, ◌||◌, List, [], ◌∷◌, map, refl, ap, sym, ◌∙◌, arith, if◌then◌else◌, Option, Some, None}
use Rattle.std.proofs.lemmas.Bool.{and_parts, and_from, eqb-true, eqb-false}
use Rattle.std.proofs.lemmas.Cmp.{nat_cmp_total, nat_list_cmp_total, lists_total, then_total, on_total}
use Rattle.std.specs.Prelude.{◌==◌, option_to_list}
use Rattle.std.specs.Cmp.{IsTotalOrder}
use Rattle.std.specs.Cmp.Lexicographic.{slice_cmp}
use Rattle.std.specs.List.{list_all, slice_split, onto_first}
use Rattle.std.specs.Ordering.{nat_cmp, ordering_then, ordering_reverse, on, then_cmp}
use Rattle.std.specs.declared.cmp.Ordering.{Ordering}
use Rattle.std.specs.declared.cmp.Ordering.TheVariants.{Less, Greater}
use Rattle.gv_version.specs.Bytes.{is_digit, front}
use Rattle.gv_version.specs.TotalDigits.{is_less, is_greater, then_equal, digit_within, shorter, front_passes}
use Rattle.gv_version.specs.Form.{Parts, is_number_byte, parts_of}
use Rattle.gv_version.specs.Order.{number_of, is_zero, stripped, rank, revision_number, cmp_later, cmp_laters, cmp_numbers, cmp_letters, cmp_fewer, cmp_more, cmp_suffixes, cmp_but_revision, compare}
use Rattle.gv_version.specs.declared.pieces.Kind.{Kind}
use Rattle.gv_version.specs.declared.pieces.Kind.TheVariants.{Alpha, Beta, Pre, Rc, Patch}

-- A component behind the first: a text below all numbers where it begins with 0, else a number.
abbrev pub Key : Type 0
Key = ℕ × List ℕ × ℕ

abbrev pub key : List ℕ → Key
key [] = (0, [], 0)
key (d ∷ ds) = if is_zero d then (0, stripped (d ∷ ds), 0) else (1, [], number_of (d ∷ ds))

abbrev cmp_kinds : Key → Key → Ordering
cmp_kinds k l = nat_cmp k.0 l.0

abbrev cmp_texts : Key → Key → Ordering
cmp_texts k l = slice_cmp nat_cmp k.1 l.1

abbrev cmp_values : Key → Key → Ordering
cmp_values k l = nat_cmp k.2 l.2

abbrev pub cmp_key : Key → Key → Ordering
cmp_key = then_cmp cmp_kinds (then_cmp cmp_texts cmp_values)

pub key_total : IsTotalOrder cmp_key
key_total = then_total (on_total (λ (k : Key). k.0) nat_cmp_total) (then_total (on_total (λ (k : Key). k.1) nat_list_cmp_total) (on_total (λ (k : Key). k.2) nat_cmp_total))

-- a text that begins with 0 comes before one that doesn't
zero_first : (ds es : List ℕ) (e : ℕ) → is_digit e ≡ true → is_zero e ≡ false → slice_cmp nat_cmp (stripped (48 ∷ ds)) (stripped (e ∷ es)) ≡ Less
zero_first ds es e h nonzero = by (list_all is_zero ds)
  where
    less : nat_cmp 48 e ≡ Less
    less = let within = digit_within e h in let apart = eqb-false e 48 nonzero in is_less 48 e (omega (arith, within.0, apart))

    by : (u : Bool) → slice_cmp nat_cmp (if u then [] else 48 ∷ stripped ds) (stripped (e ∷ es)) ≡ Less
    by true = rw nonzero refl
    by false = rw (nonzero, less) refl

zero_second : (ds es : List ℕ) (e : ℕ) → is_digit e ≡ true → is_zero e ≡ false → slice_cmp nat_cmp (stripped (e ∷ es)) (stripped (48 ∷ ds)) ≡ Greater
zero_second ds es e h nonzero = nat_list_cmp_total.antisymm (stripped (e ∷ es)) (stripped (48 ∷ ds)) ∙ ap ordering_reverse (zero_first ds es e h nonzero)

pub later_is : (x y : List ℕ) → list_all is_digit x ≡ true → list_all is_digit y ≡ true → cmp_later x y ≡ cmp_key (key x) (key y)
later_is [] [] hx hy = refl
later_is [] (e ∷ es) hx hy = by (is_zero e) refl
  where
    by : (u : Bool) → is_zero e ≡ u → (if u then slice_cmp nat_cmp [] (stripped (e ∷ es)) else nat_cmp 0 (number_of (e ∷ es))) ≡ cmp_key (0, [], 0) (if u then (0, stripped (e ∷ es), 0) else (1, [], number_of (e ∷ es)))
    by true f = sym (then_equal (slice_cmp nat_cmp [] (stripped (e ∷ es))))
    by false f = is_less 0 (number_of (e ∷ es)) (shorter [] (e ∷ es) (omega arith) refl hy f)
later_is (d ∷ ds) [] hx hy = by (is_zero d) refl
  where
    by : (u : Bool) → is_zero d ≡ u → (if u || false then slice_cmp nat_cmp (stripped (d ∷ ds)) [] else nat_cmp (number_of (d ∷ ds)) 0) ≡ cmp_key (if u then (0, stripped (d ∷ ds), 0) else (1, [], number_of (d ∷ ds))) (0, [], 0)
    by true f = sym (then_equal (slice_cmp nat_cmp (stripped (d ∷ ds)) []))
    by false f = is_greater (number_of (d ∷ ds)) 0 (shorter [] (d ∷ ds) (omega arith) refl hx f)
later_is (d ∷ ds) (e ∷ es) hx hy = by (is_zero d) (is_zero e) refl refl
  where
    by : (u v : Bool) → is_zero d ≡ u → is_zero e ≡ v
        → (if u || v then slice_cmp nat_cmp (stripped (d ∷ ds)) (stripped (e ∷ es)) else nat_cmp (number_of (d ∷ ds)) (number_of (e ∷ es)))
        ≡ cmp_key (if u then (0, stripped (d ∷ ds), 0) else (1, [], number_of (d ∷ ds))) (if v then (0, stripped (e ∷ es), 0) else (1, [], number_of (e ∷ es)))
    by true true f g = sym (then_equal (slice_cmp nat_cmp (stripped (d ∷ ds)) (stripped (e ∷ es))))
    by true false f g = ap (λ b. slice_cmp nat_cmp (stripped (b ∷ ds)) (stripped (e ∷ es))) (eqb-true d 48 f) ∙ zero_first ds es e (and_parts (is_digit e) (list_all is_digit es) hy).0 g
    by false true f g = ap (λ b. slice_cmp nat_cmp (stripped (d ∷ ds)) (stripped (b ∷ es))) (eqb-true e 48 g) ∙ zero_second es ds d (and_parts (is_digit d) (list_all is_digit ds) hx).0 f
    by false false f g = refl

abbrev pub are_digits : List (List ℕ) → Bool
are_digits xs = list_all (list_all is_digit) xs

laters_are : (xs ys : List (List ℕ)) → are_digits xs ≡ true → are_digits ys ≡ true → cmp_laters xs ys ≡ slice_cmp cmp_key (map key xs) (map key ys)
laters_are [] [] hx hy = refl
laters_are [] (y ∷ ys) hx hy = refl
laters_are (x ∷ xs) [] hx hy = refl
laters_are (x ∷ xs) (y ∷ ys) hx hy =
    let a = and_parts (list_all is_digit x) (are_digits xs) hx in
    let b = and_parts (list_all is_digit y) (are_digits ys) hy in
    ap (λ o. ordering_then o (cmp_laters xs ys)) (later_is x y a.0 b.0) ∙ ap (ordering_then (cmp_key (key x) (key y))) (laters_are xs ys a.1 b.1)

abbrev first_key : List (List ℕ) → List ℕ
first_key [] = []
first_key (x ∷ xs) = number_of x ∷ []

abbrev later_keys : List (List ℕ) → List Key
later_keys [] = []
later_keys (x ∷ xs) = map key xs

numbers_are : (xs ys : List (List ℕ)) → are_digits xs ≡ true → are_digits ys ≡ true
    → cmp_numbers xs ys ≡ ordering_then (slice_cmp nat_cmp (first_key xs) (first_key ys)) (slice_cmp cmp_key (later_keys xs) (later_keys ys))
numbers_are [] [] hx hy = refl
numbers_are [] (y ∷ ys) hx hy = refl
numbers_are (x ∷ xs) [] hx hy = refl
numbers_are (x ∷ xs) (y ∷ ys) hx hy =
    let a = and_parts (list_all is_digit x) (are_digits xs) hx in
    let b = and_parts (list_all is_digit y) (are_digits ys) hy in
    ap (ordering_then (nat_cmp (number_of x) (number_of y))) (laters_are xs ys a.1 b.1)
    ∙ ap (λ o. ordering_then o (slice_cmp cmp_key (map key xs) (map key ys))) (sym (then_equal (nat_cmp (number_of x) (number_of y))))

letters_are : (l m : Option ℕ) → cmp_letters l m ≡ slice_cmp nat_cmp (option_to_list l) (option_to_list m)
letters_are None None = refl
letters_are None (Some b) = refl
letters_are (Some a) None = refl
letters_are (Some a) (Some b) = sym (then_equal (nat_cmp a b))

-- A suffix, or the end of the suffixes, which stands between `_rc` and `_p`.
abbrev Pair : Type 0
Pair = ℕ × ℕ

abbrev place : Kind → ℕ
place Alpha = 0
place Beta = 1
place Pre = 2
place Rc = 3
place Patch = 5

abbrev suffix_keys : List (Kind × List ℕ) → List Pair
suffix_keys [] = (4, 0) ∷ []
suffix_keys (s ∷ ss) = (place s.0, number_of s.1) ∷ suffix_keys ss

abbrev cmp_places : Pair → Pair → Ordering
cmp_places p q = nat_cmp p.0 q.0

abbrev cmp_counts : Pair → Pair → Ordering
cmp_counts p q = nat_cmp p.1 q.1

abbrev cmp_pair : Pair → Pair → Ordering
cmp_pair = then_cmp cmp_places cmp_counts

pair_total : IsTotalOrder cmp_pair
pair_total = then_total (on_total (λ (p : Pair). p.0) nat_cmp_total) (on_total (λ (p : Pair). p.1) nat_cmp_total)

ranks_are : (k l : Kind) → nat_cmp (rank k) (rank l) ≡ nat_cmp (place k) (place l)
ranks_are Alpha Alpha = refl
ranks_are Alpha Beta = refl
ranks_are Alpha Pre = refl
ranks_are Alpha Rc = refl
ranks_are Alpha Patch = refl
ranks_are Beta Alpha = refl
ranks_are Beta Beta = refl
ranks_are Beta Pre = refl
ranks_are Beta Rc = refl
ranks_are Beta Patch = refl
ranks_are Pre Alpha = refl
ranks_are Pre Beta = refl
ranks_are Pre Pre = refl
ranks_are Pre Rc = refl
ranks_are Pre Patch = refl
ranks_are Rc Alpha = refl
ranks_are Rc Beta = refl
ranks_are Rc Pre = refl
ranks_are Rc Rc = refl
ranks_are Rc Patch = refl
ranks_are Patch Alpha = refl
ranks_are Patch Beta = refl
ranks_are Patch Pre = refl
ranks_are Patch Rc = refl
ranks_are Patch Patch = refl

fewer_is : (k : Kind) (ds : List ℕ) (n : ℕ) (ps : List Pair) → cmp_fewer (k, ds) ≡ slice_cmp cmp_pair ((4, 0) ∷ []) ((place k, n) ∷ ps)
fewer_is Alpha ds n ps = refl
fewer_is Beta ds n ps = refl
fewer_is Pre ds n ps = refl
fewer_is Rc ds n ps = refl
fewer_is Patch ds n ps = refl

more_is : (k : Kind) (ds : List ℕ) (n : ℕ) (ps : List Pair) → cmp_more (k, ds) ≡ slice_cmp cmp_pair ((place k, n) ∷ ps) ((4, 0) ∷ [])
more_is Alpha ds n ps = refl
more_is Beta ds n ps = refl
more_is Pre ds n ps = refl
more_is Rc ds n ps = refl
more_is Patch ds n ps = refl

suffixes_are : (ss ts : List (Kind × List ℕ)) → cmp_suffixes ss ts ≡ slice_cmp cmp_pair (suffix_keys ss) (suffix_keys ts)
suffixes_are [] [] = refl
suffixes_are [] (t ∷ ts) = fewer_is t.0 t.1 (number_of t.1) (suffix_keys ts)
suffixes_are (s ∷ ss) [] = more_is s.0 s.1 (number_of s.1) (suffix_keys ss)
suffixes_are (s ∷ ss) (t ∷ ts) =
    ap (λ o. ordering_then (ordering_then o (nat_cmp (number_of s.1) (number_of t.1))) (cmp_suffixes ss ts)) (ranks_are s.0 t.0)
    ∙ ap (ordering_then (cmp_pair (place s.0, number_of s.1) (place t.0, number_of t.1))) (suffixes_are ss ts)

-- The parts together.
abbrev cmp_firsts : Parts → Parts → Ordering
cmp_firsts v w = slice_cmp nat_cmp (first_key v.numbers) (first_key w.numbers)

abbrev cmp_rests : Parts → Parts → Ordering
cmp_rests v w = slice_cmp cmp_key (later_keys v.numbers) (later_keys w.numbers)

abbrev by_letter : Parts → Parts → Ordering
by_letter v w = slice_cmp nat_cmp (option_to_list v.letter) (option_to_list w.letter)

abbrev by_suffixes : Parts → Parts → Ordering
by_suffixes v w = slice_cmp cmp_pair (suffix_keys v.suffixes) (suffix_keys w.suffixes)

abbrev pub by_revision : Parts → Parts → Ordering
by_revision v w = nat_cmp (revision_number v.revision) (revision_number w.revision)

abbrev pub keys_but_revision : Parts → Parts → Ordering
keys_but_revision = then_cmp (then_cmp cmp_firsts cmp_rests) (then_cmp by_letter by_suffixes)

abbrev keys : Parts → Parts → Ordering
keys = then_cmp keys_but_revision by_revision

pub keys_but_revision_total : IsTotalOrder keys_but_revision
keys_but_revision_total =
    then_total (then_total (on_total (λ (v : Parts). first_key v.numbers) nat_list_cmp_total) (on_total (λ (v : Parts). later_keys v.numbers) (lists_total key_total)))
    (then_total (on_total (λ (v : Parts). option_to_list v.letter) nat_list_cmp_total) (on_total (λ (v : Parts). suffix_keys v.suffixes) (lists_total pair_total)))

keys_total : IsTotalOrder keys
keys_total = then_total keys_but_revision_total (on_total (λ (v : Parts). revision_number v.revision) nat_cmp_total)

pub but_revision_is : (v w : Parts) → are_digits v.numbers ≡ true → are_digits w.numbers ≡ true → cmp_but_revision v w ≡ keys_but_revision v w
but_revision_is v w hv hw =
    ap (λ o. ordering_then o (ordering_then (cmp_letters v.letter w.letter) (cmp_suffixes v.suffixes w.suffixes))) (numbers_are v.numbers w.numbers hv hw)
    ∙ ap (λ o. ordering_then (then_cmp cmp_firsts cmp_rests v w) (ordering_then o (cmp_suffixes v.suffixes w.suffixes))) (letters_are v.letter w.letter)
    ∙ ap (λ o. ordering_then (then_cmp cmp_firsts cmp_rests v w) (ordering_then (by_letter v w) o)) (suffixes_are v.suffixes w.suffixes)

-- The numbers of every text are digits.
onto_digits : (b : ℕ) (parts : List (List ℕ)) → is_digit b ≡ true → are_digits parts ≡ true → are_digits (onto_first b parts) ≡ true
onto_digits b [] h hs = and_from (is_digit b && true) true (and_from (is_digit b) true h refl) refl
onto_digits b (p ∷ ps) h hs =
    let both = and_parts (list_all is_digit p) (are_digits ps) hs in
    and_from (is_digit b && list_all is_digit p) (are_digits ps) (and_from (is_digit b) (list_all is_digit p) h both.0) both.1

no_dot : (b : ℕ) → is_number_byte b ≡ true → (b == 46) ≡ false → is_digit b ≡ true
no_dot b h e = grind arith

split_all : (bs : List ℕ) → list_all is_number_byte bs ≡ true → are_digits (slice_split (λ b. b == 46) bs) ≡ true
split_all [] h = refl
split_all (b ∷ bs) h = by (b == 46) refl (and_parts (is_number_byte b) (list_all is_number_byte bs) h).0 (split_all bs (and_parts (is_number_byte b) (list_all is_number_byte bs) h).1)
  where
    by : (dot : Bool) → (b == 46) ≡ dot → is_number_byte b ≡ true → are_digits (slice_split (λ b. b == 46) bs) ≡ true
        → are_digits (if dot then [] ∷ slice_split (λ b. b == 46) bs else onto_first b (slice_split (λ b. b == 46) bs)) ≡ true
    by true e here rest = rest
    by false e here rest = onto_digits b (slice_split (λ b. b == 46) bs) (no_dot b here e) rest

pub numbers_all : (bytes : List ℕ) → are_digits (parts_of bytes).numbers ≡ true
numbers_all bytes = split_all (front is_number_byte bytes) (front_passes is_number_byte bytes)

compare_is : (a b : List ℕ) → compare a b ≡ on parts_of keys a b
compare_is a b = ap (λ o. ordering_then o (by_revision (parts_of a) (parts_of b))) (but_revision_is (parts_of a) (parts_of b) (numbers_all a) (numbers_all b))

carried : (R S : List ℕ → List ℕ → Ordering) → ((a b : List ℕ) → R a b ≡ S a b) → IsTotalOrder S → IsTotalOrder R
carried R S same s = record {
  antisymm = λ x y. same x y ∙ s.antisymm x y ∙ ap ordering_reverse (sym (same y x));
  trans = λ x y z p q. same x z ∙ s.trans x y z (sym (same x y) ∙ p) (sym (same y z) ∙ q);
  congr = λ x y z p. same x z ∙ s.congr x y z (sym (same x y) ∙ p) ∙ sym (same y z);
}

pub version_total : IsTotalOrder compare
version_total = carried compare (on parts_of keys) compare_is (on_total parts_of keys_total)
