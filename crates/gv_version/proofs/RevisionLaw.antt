-- A version without its revision is the version of the other parts.
use Rattle.std.proofs.Common.{◌≡◌, ℕ, Bool, true, ◌&&◌, List, [], ◌∷◌, ◌++◌, refl, ap, sym, ◌∙◌, append-nil, append_assoc, arith, Option, Some, None}
use Rattle.std.proofs.lemmas.Bool.{and_parts, and_from}
use Rattle.std.proofs.lemmas.List.Folds.{list_all-append}
use Rattle.std.specs.Prelude.{flat_map, option_to_list}
use Rattle.std.specs.Option.{option_map_or}
use Rattle.std.specs.List.{list_all, join_with_byte}
use Rattle.std.specs.Ordering.{is_eq}
use Rattle.gv_version.specs.Bytes.{is_digit, is_small, front}
use Rattle.gv_version.specs.Form.{Parts, suffix_text, revision_text, version_text, is_number, are_numbers, are_parts, HasForm, has_form, is_version, is_number_byte, is_in_suffixes, parts_of}
use Rattle.gv_version.specs.Order.{cmp_but_revision, cmp_parts, same_but_revision}
use Rattle.gv_version.specs.PieceReading.{cmp_pieces, pieces_in}
use Rattle.gv_version.proofs.FormLaw.{front_ends, revision_stops, suffixes_in, joined_bytes, form_says, says_form, read_parts}
use Rattle.gv_version.specs.TotalDigits.{then_equal}
use Rattle.gv_version.proofs.OrderLaw.{form_of, pieces_cmp}

abbrev bare : Parts → Parts
bare v = record { numbers = v.numbers; letter = v.letter; suffixes = v.suffixes; revision = None }

number_in : (b : ℕ) → is_number_byte b ≡ true → is_in_suffixes b ≡ true
number_in b h = grind arith

numbers_in : (bs : List ℕ) → list_all is_number_byte bs ≡ true → list_all is_in_suffixes bs ≡ true
numbers_in [] h = refl
numbers_in (b ∷ bs) h =
    let both = and_parts (is_number_byte b) (list_all is_number_byte bs) h in
    and_from (is_in_suffixes b) (list_all is_in_suffixes bs) (number_in b both.0) (numbers_in bs both.1)

joined_in : (ns : List (List ℕ)) → are_numbers ns ≡ true → list_all is_in_suffixes (join_with_byte 46 ns) ≡ true
joined_in [] h = refl
joined_in (x ∷ xs) h =
    let both = and_parts (is_number x) (list_all is_number xs) h in
    numbers_in (join_with_byte 46 (x ∷ xs)) (joined_bytes x xs both.0 both.1)

small_in : (b : ℕ) → is_small b ≡ true → is_in_suffixes b ≡ true
small_in b h = grind arith

letter_in : (l : Option ℕ) → option_map_or is_small l true ≡ true → list_all is_in_suffixes (option_to_list l) ≡ true
letter_in None h = refl
letter_in (Some b) h = and_from (is_in_suffixes b) true (small_in b h) refl

all_in : (xs ys : List ℕ) → list_all is_in_suffixes xs ≡ true → list_all is_in_suffixes ys ≡ true → list_all is_in_suffixes (xs ++ ys) ≡ true
all_in xs ys hx hy = list_all-append is_in_suffixes xs ys ∙ and_from (list_all is_in_suffixes xs) (list_all is_in_suffixes ys) hx hy

abbrev are_suffixes : Parts → Bool
are_suffixes v = list_all (λ s. list_all is_digit s.1) v.suffixes

record AreGood (v : Parts) : Type 0 where
  numbers : are_numbers v.numbers ≡ true
  letter : option_map_or is_small v.letter true ≡ true
  suffixes : are_suffixes v ≡ true
  revision : option_map_or is_number v.revision true ≡ true

good_parts : (v : Parts) → are_parts v ≡ true → AreGood v
good_parts v h =
    let a = and_parts (are_numbers v.numbers) (option_map_or is_small v.letter true && (are_suffixes v && option_map_or is_number v.revision true)) h in
    let b = and_parts (option_map_or is_small v.letter true) (are_suffixes v && option_map_or is_number v.revision true) a.1 in
    let c = and_parts (are_suffixes v) (option_map_or is_number v.revision true) b.1 in
    record { numbers = a.0; letter = b.0; suffixes = c.0; revision = c.1 }

bare_good : (v : Parts) → AreGood v → are_parts (bare v) ≡ true
bare_good v g =
    and_from (are_numbers v.numbers) (option_map_or is_small v.letter true && (are_suffixes v && true)) g.numbers
    (and_from (option_map_or is_small v.letter true) (are_suffixes v && true) g.letter (and_from (are_suffixes v) true g.suffixes refl))

-- the text before the revision
abbrev front_text : Parts → List ℕ
front_text v = join_with_byte 46 v.numbers ++ (option_to_list v.letter ++ flat_map suffix_text v.suffixes)

written : (v : Parts) → version_text v ≡ front_text v ++ revision_text v.revision
written v =
    let n : List ℕ = join_with_byte 46 v.numbers in
    let l : List ℕ = option_to_list v.letter in
    let s : List ℕ = flat_map suffix_text v.suffixes in
    let r : List ℕ = revision_text v.revision in
    ap (λ x. n ++ x) (sym (append_assoc l s r)) ∙ sym (append_assoc n (l ++ s) r)

bare_text : (v : Parts) → version_text (bare v) ≡ front_text v
bare_text v = written (bare v) ∙ append-nil (front_text v)

front_in : (v : Parts) → AreGood v → list_all is_in_suffixes (front_text v) ≡ true
front_in v g =
    all_in (join_with_byte 46 v.numbers) (option_to_list v.letter ++ flat_map suffix_text v.suffixes) (joined_in v.numbers g.numbers)
    (all_in (option_to_list v.letter) (flat_map suffix_text v.suffixes) (letter_in v.letter g.letter) (suffixes_in v.suffixes g.suffixes))

-- what a version is without its revision
record IsBare (text : List ℕ) : Type 0 where
  form : has_form (front is_in_suffixes text) ≡ true
  parts : parts_of (front is_in_suffixes text) ≡ bare (parts_of text)

bared : (text : List ℕ) → has_form text ≡ true → IsBare text
bared text h =
    let f : HasForm text = form_says text h in
    let v : Parts = f.0 in
    let g : AreGood v = good_parts v f.1 in
    let same : parts_of text ≡ v = ap parts_of (sym f.2) ∙ read_parts v f.1 in
    let cut : front is_in_suffixes text ≡ version_text (bare v) =
    ap (front is_in_suffixes) (sym f.2 ∙ written v) ∙ front_ends is_in_suffixes (front_text v) (revision_text v.revision) (front_in v g) (revision_stops v.revision) ∙ sym (bare_text v) in
    record {
      form = says_form (front is_in_suffixes text) (bare v, bare_good v g, sym cut);
      parts = ap parts_of cut ∙ read_parts (bare v) (bare_good v g) ∙ ap bare (sym same);
    }

pub versions_same : (a b : List ℕ) → is_version a ≡ true → is_version b ≡ true
    → is_eq (cmp_pieces (pieces_in (front is_in_suffixes a)) (pieces_in (front is_in_suffixes b))) ≡ same_but_revision a b
versions_same a b ha hb =
    let x : IsBare a = bared a (form_of a ha) in
    let y : IsBare b = bared b (form_of b hb) in
    ap is_eq (
    pieces_cmp (front is_in_suffixes a) (front is_in_suffixes b) x.form y.form
    ∙ ap (λ v. cmp_parts v (parts_of (front is_in_suffixes b))) x.parts
    ∙ ap (λ w. cmp_parts (bare (parts_of a)) w) y.parts
    ∙ then_equal (cmp_but_revision (parts_of a) (parts_of b))
    )
