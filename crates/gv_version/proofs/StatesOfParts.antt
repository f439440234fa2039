-- Reading the text of good parts byte by byte ends in a state that is whole.
use Rattle.std.proofs.Common.{◌≡◌, ℕ, Bool, true, false, ◌&&◌, List, [], ◌∷◌, ◌++◌, refl, ap, sym, ◌∙◌, append_assoc, arith, Option, Some, None}
use Rattle.std.proofs.lemmas.Bool.{and_parts, false≢true}
use Rattle.std.specs.Prelude.{◌==◌, flat_map, option_to_list}
use Rattle.std.specs.Option.{option_map_or}
use Rattle.std.specs.List.{list_all, join_with_byte}
use Rattle.gv_version.specs.Bytes.{is_digit, is_small}
use Rattle.gv_version.specs.FormReading.{next, is_whole, run}
use Rattle.gv_version.specs.declared.pieces.Kind.{Kind}
use Rattle.gv_version.specs.declared.pieces.Kind.TheVariants.{Alpha, Beta, Pre, Rc, Patch}
use Rattle.gv_version.specs.Form.{kind_text, Parts, suffix_text, revision_text, is_number, are_parts, HasForm, has_form}
use Rattle.gv_version.specs.declared.form.State.{State}
use Rattle.gv_version.specs.declared.form.State.TheVariants.{Start, Number, Dot, Letter, Underscore, P, Suffix, SuffixNumber, Hyphen, HyphenR, Revision}
use Rattle.gv_version.proofs.FormLaw.{form_says}

abbrev pub accepts : State → List ℕ → Bool
accepts s bytes = is_whole (run s bytes)

pub run-append : (s : State) (xs ys : List ℕ) → run s (xs ++ ys) ≡ run (run s xs) ys
run-append s [] ys = refl
run-append s (x ∷ xs) ys = run-append (next s x) xs ys

digits_stay : (s : State) (ds : List ℕ) → ((b : ℕ) → is_digit b ≡ true → next s b ≡ s) → list_all is_digit ds ≡ true → run s ds ≡ s
digits_stay s [] stay h = refl
digits_stay s (d ∷ ds) stay h =
    let both = and_parts (is_digit d) (list_all is_digit ds) h in
    rw (stay d both.0) (digits_stay s ds stay both.1)

in_number : (b : ℕ) → is_digit b ≡ true → next Number b ≡ Number
in_number b h = rw h refl

in_suffix_number : (b : ℕ) → is_digit b ≡ true → next SuffixNumber b ≡ SuffixNumber
in_suffix_number b h = rw h refl

in_revision : (b : ℕ) → is_digit b ≡ true → next Revision b ≡ Revision
in_revision b h = rw h refl

number_read : (s : State) (ds : List ℕ) → ((b : ℕ) → is_digit b ≡ true → next s b ≡ Number) → is_number ds ≡ true → run s ds ≡ Number
number_read s [] starts h = absurd (false≢true h)
number_read s (d ∷ ds) starts h =
    let both = and_parts (is_digit d) (list_all is_digit ds) h in
    rw (starts d both.0) (digits_stay Number ds in_number both.1)

after_start : (b : ℕ) → is_digit b ≡ true → next Start b ≡ Number
after_start b h = rw h refl

after_dot : (b : ℕ) → is_digit b ≡ true → next Dot b ≡ Number
after_dot b h = rw h refl

numbers_read : (s : State) (x : List ℕ) (xs : List (List ℕ)) → ((b : ℕ) → is_digit b ≡ true → next s b ≡ Number) → is_number x ≡ true → list_all is_number xs ≡ true → run s (join_with_byte 46 (x ∷ xs)) ≡ Number
numbers_read s x [] starts hx hxs = number_read s x starts hx
numbers_read s x (y ∷ ys) starts hx hxs =
    let both = and_parts (is_number y) (list_all is_number ys) hxs in
    run-append s x (46 ∷ join_with_byte 46 (y ∷ ys))
    ∙ rw (number_read s x starts hx) (numbers_read Dot y ys after_dot both.0 both.1)

-- A suffix or a revision may follow.
record CanGoOn (s : State) : Type 0 where
  underscore : next s 95 ≡ Underscore
  hyphen : next s 45 ≡ Hyphen
  whole : is_whole s ≡ true

go_on_number : CanGoOn Number
go_on_number = record { underscore = refl; hyphen = refl; whole = refl }

go_on_letter : CanGoOn Letter
go_on_letter = record { underscore = refl; hyphen = refl; whole = refl }

go_on_patch : CanGoOn P
go_on_patch = record { underscore = refl; hyphen = refl; whole = refl }

go_on_suffix : CanGoOn Suffix
go_on_suffix = record { underscore = refl; hyphen = refl; whole = refl }

go_on_suffix_number : CanGoOn SuffixNumber
go_on_suffix_number = record { underscore = refl; hyphen = refl; whole = refl }

digit_not_r : (b : ℕ) → is_digit b ≡ true → (b == 114) ≡ false
digit_not_r b h = grind arith

after_patch : (d : ℕ) → is_digit d ≡ true → next P d ≡ SuffixNumber
after_patch d h = rw (digit_not_r d h, h) refl

patch_read : (ds : List ℕ) → list_all is_digit ds ≡ true → CanGoOn (run P ds)
patch_read [] h = go_on_patch
patch_read (d ∷ ds) h =
    let both = and_parts (is_digit d) (list_all is_digit ds) h in
    rw (after_patch d both.0, digits_stay SuffixNumber ds in_suffix_number both.1) go_on_suffix_number

suffix_number_read : (ds : List ℕ) → list_all is_digit ds ≡ true → CanGoOn (run Suffix ds)
suffix_number_read [] h = go_on_suffix
suffix_number_read (d ∷ ds) h =
    let both = and_parts (is_digit d) (list_all is_digit ds) h in
    rw (both.0, digits_stay SuffixNumber ds in_suffix_number both.1) go_on_suffix_number

word_read : (k : Kind) (ds : List ℕ) → list_all is_digit ds ≡ true → CanGoOn (run Underscore (kind_text k ++ ds))
word_read Alpha ds h = suffix_number_read ds h
word_read Beta ds h = suffix_number_read ds h
word_read Pre ds h = suffix_number_read ds h
word_read Rc ds h = suffix_number_read ds h
word_read Patch ds h = patch_read ds h

abbrev pub are_suffixes : List (Kind × List ℕ) → Bool
are_suffixes ss = list_all (λ s. list_all is_digit s.1) ss

abbrev pub is_revision : Option (List ℕ) → Bool
is_revision r = option_map_or is_number r true

revision_digits : (ds : List ℕ) → is_number ds ≡ true → is_whole (run HyphenR ds) ≡ true
revision_digits [] h = absurd (false≢true h)
revision_digits (d ∷ ds) h =
    let both = and_parts (is_digit d) (list_all is_digit ds) h in
    rw (both.0, digits_stay Revision ds in_revision both.1) refl

body_read : (s : State) (ss : List (Kind × List ℕ)) (r : Option (List ℕ)) → CanGoOn s → are_suffixes ss ≡ true → is_revision r ≡ true
    → accepts s (flat_map suffix_text ss ++ revision_text r) ≡ true
body_read s [] None go hs hr = go.whole
body_read s [] (Some ds) go hs hr = rw (go.hyphen) (revision_digits ds hr)
body_read s (t ∷ ts) r go hs hr =
    let both = and_parts (list_all is_digit t.1) (are_suffixes ts) hs in
    let rest : List ℕ = flat_map suffix_text ts ++ revision_text r in
    let state : run s ((suffix_text t ++ flat_map suffix_text ts) ++ revision_text r) ≡ run (run Underscore (kind_text t.0 ++ t.1)) rest =
    ap (run s) (append_assoc (suffix_text t) (flat_map suffix_text ts) (revision_text r))
    ∙ ap (λ x. run x ((kind_text t.0 ++ t.1) ++ rest)) go.underscore
    ∙ run-append Underscore (kind_text t.0 ++ t.1) rest in
    ap is_whole state ∙ body_read (run Underscore (kind_text t.0 ++ t.1)) ts r (word_read t.0 t.1 both.0) both.1 hr

pub small_no_digit : (b : ℕ) → is_small b ≡ true → is_digit b ≡ false
small_no_digit b h = grind arith

pub small_no_dot : (b : ℕ) → is_small b ≡ true → (b == 46) ≡ false
small_no_dot b h = grind arith

letter_read : (b : ℕ) → is_small b ≡ true → next Number b ≡ Letter
letter_read b h = rw (small_no_digit b h, small_no_dot b h, h) refl

end_read : (l : Option ℕ) (ss : List (Kind × List ℕ)) (r : Option (List ℕ)) → option_map_or is_small l true ≡ true → are_suffixes ss ≡ true → is_revision r ≡ true
    → accepts Number (option_to_list l ++ (flat_map suffix_text ss ++ revision_text r)) ≡ true
end_read None ss r hl hs hr = body_read Number ss r go_on_number hs hr
end_read (Some b) ss r hl hs hr =
    ap (λ x. is_whole (run x (flat_map suffix_text ss ++ revision_text r))) (letter_read b hl) ∙ body_read Letter ss r go_on_letter hs hr

fields_read : (ns : List (List ℕ)) (l : Option ℕ) (ss : List (Kind × List ℕ)) (r : Option (List ℕ)) → are_parts (record { numbers = ns; letter = l; suffixes = ss; revision = r }) ≡ true
    → accepts Start (join_with_byte 46 ns ++ (option_to_list l ++ (flat_map suffix_text ss ++ revision_text r))) ≡ true
fields_read [] l ss r good = absurd (false≢true good)
fields_read (x ∷ xs) l ss r good =
    let first = and_parts (is_number x && list_all is_number xs) (option_map_or is_small l true && (are_suffixes ss && is_revision r)) good in
    let numbers = and_parts (is_number x) (list_all is_number xs) first.0 in
    let rest = and_parts (option_map_or is_small l true) (are_suffixes ss && is_revision r) first.1 in
    let end = and_parts (are_suffixes ss) (is_revision r) rest.1 in
    ap is_whole (run-append Start (join_with_byte 46 (x ∷ xs)) (option_to_list l ++ (flat_map suffix_text ss ++ revision_text r)))
    ∙ rw (numbers_read Start x xs after_start numbers.0 numbers.1) (end_read l ss r rest.0 end.0 end.1)

pub form_read : (bytes : List ℕ) → has_form bytes ≡ true → accepts Start bytes ≡ true
form_read bytes h =
    let form : HasForm bytes = form_says bytes h in
    let v : Parts = form.0 in
    ap (accepts Start) (sym form.2) ∙ fields_read v.numbers v.letter v.suffixes v.revision form.1
