-- Which bytes stand in names and versions.
use Rattle.std.proofs.Common.{◌≡◌, ℕ, Bool, true, false, ◌&&◌, ◌||◌, not, List, [], ◌∷◌, ◌++◌, refl, ap, subst, Option, Some, None, if◌then◌else◌}
use Rattle.std.proofs.lemmas.Bool.{false≢true, and_parts, and_from}
use Rattle.std.specs.Prelude.{◌==◌, codes, is_none, filter_map, flat_map, option_map, option_to_list, unwrap_or}
use Rattle.std.specs.Option.{option_map_or}
use Rattle.std.specs.List.{list_all, join_with_byte, cons_option, slice_split}
use Rattle.std.specs.Str.{bytes_eq, byte}
use Rattle.gv_version.specs.Bytes.{is_digit, is_small, is_one_of, begins_with, front, behind}
use Rattle.gv_version.specs.Names.{is_package, is_package_byte, ends_in_version}
use Rattle.gv_version.specs.Form.{Parts, HasForm, kind_text, kind_named, suffix_of, is_in_suffixes, is_number_byte, after_small, suffix_text, revision_text, version_text, is_number, are_numbers, are_parts, parts_of, has_form, long_run, is_version}
use Rattle.gv_atom.proofs.Pieces.{same, some_is, not_none}

pub package_bytes : (name : List ℕ) → is_package name ≡ true → list_all is_package_byte name ≡ true
package_bytes [] h = refl
package_bytes (b ∷ bs) h =
    (and_parts (list_all is_package_byte (b ∷ bs)) (not (begins_with (is_one_of (codes "-+")) (b ∷ bs)) && not (ends_in_version (b ∷ bs))) h).0

abbrev pub is_version_byte : ℕ → Bool
is_version_byte b = is_digit b || (is_small b || is_one_of (codes "._-") b)

or_left : (a b : Bool) → a ≡ true → (a || b) ≡ true
or_left true b h = refl
or_left false b h = absurd (false≢true h)

or_right : (a b : Bool) → b ≡ true → (a || b) ≡ true
or_right true b h = refl
or_right false b h = h

digit_passes : (b : ℕ) → is_digit b ≡ true → is_version_byte b ≡ true
digit_passes b h = or_left (is_digit b) (is_small b || is_one_of (codes "._-") b) h

small_passes : (b : ℕ) → is_small b ≡ true → is_version_byte b ≡ true
small_passes b h = or_right (is_digit b) (is_small b || is_one_of (codes "._-") b) (or_left (is_small b) (is_one_of (codes "._-") b) h)

abbrev passes : List ℕ → Bool
passes text = list_all is_version_byte text

passes_both : (x y : List ℕ) → passes x ≡ true → passes y ≡ true → passes (x ++ y) ≡ true
passes_both [] y h k = k
passes_both (b ∷ bs) y h k =
    let parts = and_parts (is_version_byte b) (passes bs) h in
    and_from (is_version_byte b) (passes (bs ++ y)) parts.0 (passes_both bs y parts.1 k)

digits_pass : (digits : List ℕ) → list_all is_digit digits ≡ true → passes digits ≡ true
digits_pass [] h = refl
digits_pass (b ∷ bs) h =
    let parts = and_parts (is_digit b) (list_all is_digit bs) h in
    and_from (is_version_byte b) (passes bs) (digit_passes b parts.0) (digits_pass bs parts.1)

number_passes : (digits : List ℕ) → is_number digits ≡ true → passes digits ≡ true
number_passes [] h = refl
number_passes (b ∷ bs) h = digits_pass (b ∷ bs) h

numbers_pass : (numbers : List (List ℕ)) → list_all is_number numbers ≡ true → passes (join_with_byte (byte ".") numbers) ≡ true
numbers_pass [] h = refl
numbers_pass (x ∷ []) h = number_passes x (and_parts (is_number x) true h).0
numbers_pass (x ∷ y ∷ ys) h =
    let parts = and_parts (is_number x) (list_all is_number (y ∷ ys)) h in
    passes_both x (byte "." ∷ join_with_byte (byte ".") (y ∷ ys)) (number_passes x parts.0) (numbers_pass (y ∷ ys) parts.1)

all_numbers : (numbers : List (List ℕ)) → are_numbers numbers ≡ true → list_all is_number numbers ≡ true
all_numbers [] h = refl
all_numbers (x ∷ xs) h = h

letter_passes : (letter : Option ℕ) → option_map_or is_small letter true ≡ true → passes (option_to_list letter) ≡ true
letter_passes None h = refl
letter_passes (Some b) h = and_from (is_version_byte b) true (small_passes b h) refl

-- The kinds of suffixes are private to their crate: what is said of them is said of any type with texts.
module _ {K : Type 0} (text : K → List ℕ) where
  kinds_pass : (p q r s t : Bool) (a b c d e k : K)
      → (if p then Some a else (if q then Some b else (if r then Some c else (if s then Some d else (if t then Some e else None))))) ≡ Some k
      → passes (text a) ≡ true → passes (text b) ≡ true → passes (text c) ≡ true → passes (text d) ≡ true → passes (text e) ≡ true → passes (text k) ≡ true
  kinds_pass true q r s t a b c d e k is h i j l m = rw (← some_is a k is) h
  kinds_pass false true r s t a b c d e k is h i j l m = rw (← some_is b k is) i
  kinds_pass false false true s t a b c d e k is h i j l m = rw (← some_is c k is) j
  kinds_pass false false false true t a b c d e k is h i j l m = rw (← some_is d k is) l
  kinds_pass false false false false true a b c d e k is h i j l m = rw (← some_is e k is) m
  kinds_pass false false false false false a b c d e k is h i j l m = absurd (not_none k is)

  suffix_passes : (kind : Option K) (digits : List ℕ) (s : K × List ℕ) → option_map (λ k. (k, digits)) kind ≡ Some s
      → ((k : K) → kind ≡ Some k → passes (text k) ≡ true) → list_all is_digit s.1 ≡ true → passes (text s.0 ++ s.1) ≡ true
  suffix_passes None digits s is kinds h = absurd (not_none s is)
  suffix_passes (Some k) digits s is kinds h =
      let same_kind : k ≡ s.0 = ap (λ (x : K × List ℕ). x.0) (some_is (k, digits) s is) in
      passes_both (text s.0) s.1 (rw (← same_kind) (kinds k refl)) (digits_pass s.1 h)

-- the texts of what is found in a row
found_pass : {S : Type 0} (text : S → List ℕ) (good : S → Bool) (found : Option S) (rest : List S) → ((s : S) → found ≡ Some s → good s ≡ true → passes (text s) ≡ true)
    → (list_all good rest ≡ true → passes (flat_map text rest) ≡ true) → list_all good (cons_option found rest) ≡ true → passes (flat_map text (cons_option found rest)) ≡ true
found_pass text good None rest one later h = later h
found_pass text good (Some s) rest one later h =
    let parts = and_parts (good s) (list_all good rest) h in
    passes_both (text s) (flat_map text rest) (one s refl parts.0) (later parts.1)

suffixes_pass : (words : List (List ℕ)) → list_all (λ s. list_all is_digit s.1) (filter_map suffix_of words) ≡ true → passes (flat_map suffix_text (filter_map suffix_of words)) ≡ true
suffixes_pass [] h = refl
suffixes_pass (w ∷ ws) h =
    let word : List ℕ = front is_small w in
    found_pass suffix_text (λ s. list_all is_digit s.1) (suffix_of w) (filter_map suffix_of ws)
    (λ s e g. suffix_passes kind_text (kind_named word) (behind is_small w) s e
    (λ k f. kinds_pass kind_text (bytes_eq word (codes "alpha")) (bytes_eq word (codes "beta")) (bytes_eq word (codes "pre")) (bytes_eq word (codes "rc")) (bytes_eq word (codes "p"))
    (unwrap_or (kind_named (codes "alpha")) k) (unwrap_or (kind_named (codes "beta")) k) (unwrap_or (kind_named (codes "pre")) k) (unwrap_or (kind_named (codes "rc")) k)
    (unwrap_or (kind_named (codes "p")) k) k f refl refl refl refl refl) g)
    (suffixes_pass ws) h

revision_passes : (revision : Option (List ℕ)) → option_map_or is_number revision true ≡ true → passes (revision_text revision) ≡ true
revision_passes None h = refl
revision_passes (Some digits) h = number_passes digits h

parts_pass : (bytes : List ℕ) → are_parts (parts_of bytes) ≡ true → passes (version_text (parts_of bytes)) ≡ true
parts_pass bytes h =
    let v : Parts = parts_of bytes in
    let numbers = and_parts (are_numbers v.numbers) (option_map_or is_small v.letter true && (list_all (λ s. list_all is_digit s.1) v.suffixes && option_map_or is_number v.revision true)) h in
    let letter = and_parts (option_map_or is_small v.letter true) (list_all (λ s. list_all is_digit s.1) v.suffixes && option_map_or is_number v.revision true) numbers.1 in
    let rest = and_parts (list_all (λ s. list_all is_digit s.1) v.suffixes) (option_map_or is_number v.revision true) letter.1 in
    passes_both (join_with_byte (byte ".") v.numbers) (option_to_list v.letter ++ (flat_map suffix_text v.suffixes ++ revision_text v.revision))
    (numbers_pass v.numbers (all_numbers v.numbers numbers.0))
    (passes_both (option_to_list v.letter) (flat_map suffix_text v.suffixes ++ revision_text v.revision) (letter_passes v.letter letter.0)
    (passes_both (flat_map suffix_text v.suffixes) (revision_text v.revision)
    (suffixes_pass (slice_split (λ b. b == byte "_") (front is_in_suffixes (after_small (behind is_number_byte bytes)))) rest.0) (revision_passes v.revision rest.1)))

-- a version is the text of parts
pub form_of : (version : List ℕ) → is_version version ≡ true → HasForm version
form_of version h =
    let form = and_parts (has_form version) (is_none (long_run version)) h in
    let parts = and_parts (are_parts (parts_of version)) (bytes_eq (version_text (parts_of version)) version) form.0 in
    (parts_of version, parts.0, same (version_text (parts_of version)) version parts.1)

pub version_bytes : (version : List ℕ) → is_version version ≡ true → list_all is_version_byte version ≡ true
unfolding form_of
version_bytes version h =
    let form = form_of version h in
    subst (λ x. passes x ≡ true) form.2 (parts_pass version form.1)
