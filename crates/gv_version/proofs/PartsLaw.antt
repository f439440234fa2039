-- The pieces that are read of a version are those of its parts.
use Rattle.std.proofs.Common.{◌≡◌, ℕ, Bool, true, false, ◌&&◌, List, [], ◌∷◌, ◌++◌, map, refl, ap, sym, ◌∙◌, append-nil, append_assoc, if◌then◌else◌, Option, Some, None}
use Rattle.std.proofs.lemmas.Bool.{and_parts, false≢true}
use Rattle.std.specs.Prelude.{◌==◌, is_none, flat_map, option_to_list, option_map}
use Rattle.std.specs.Option.{option_map_or}
use Rattle.std.specs.List.{list_all, join_with_byte}
use Rattle.gv_version.specs.Bytes.{is_digit, is_small, begins_with, front, behind}
use Rattle.gv_version.specs.Form.{kind_text, Parts, suffix_text, revision_text, is_number, are_parts, HasForm, has_form, long_run, is_version, parts_of}
use Rattle.gv_version.specs.Pieces.{Piece, first, later, letter, suffix, revision, pieces_of, is_front, begins}
use Rattle.gv_version.specs.PieceReading.{next_suffix, next_revision, next_piece, pieces_in}
use Rattle.gv_version.specs.declared.pieces.Kind.{Kind}
use Rattle.gv_version.proofs.FormLaw.{front_ends, behind_ends, digits_of, digits_stop, kind_small, named_kind, form_says, read_parts}
use Rattle.gv_version.proofs.StatesOfParts.{small_no_digit, small_no_dot}
use Rattle.gv_version.proofs.PieceLaw.{pieces_more}

abbrev pub suffix_piece : Kind × List ℕ → Piece
suffix_piece s = suffix s.0 s.1

abbrev are_suffixes : List (Kind × List ℕ) → Bool
are_suffixes ss = list_all (λ s. list_all is_digit s.1) ss

abbrev is_revision : Option (List ℕ) → Bool
is_revision r = option_map_or is_number r true

abbrev body : List (Kind × List ℕ) → Option (List ℕ) → List ℕ
body ss r = flat_map suffix_text ss ++ revision_text r

abbrev pub body_pieces : List (Kind × List ℕ) → Option (List ℕ) → List Piece
body_pieces ss r = map suffix_piece ss ++ option_to_list (option_map revision r)

-- One piece of each kind.
digit_piece : (b : ℕ) (bs : List ℕ) → is_digit b ≡ true → next_piece (b ∷ bs) ≡ Some (first (front is_digit (b ∷ bs)), behind is_digit (b ∷ bs))
digit_piece b bs h = by (is_digit b) h
  where
    by : (u : Bool) → u ≡ true → (if u then Some (first (front is_digit (b ∷ bs)), behind is_digit (b ∷ bs)) else
        if b == 46 then Some (later (front is_digit bs), behind is_digit bs) else
        if is_small b then Some (letter b, bs) else
        if b == 95 then next_suffix bs else
        if b == 45 then next_revision bs else None) ≡ Some (first (front is_digit (b ∷ bs)), behind is_digit (b ∷ bs))
    by true e = refl
    by false e = absurd (false≢true e)

first_piece : (x rest : List ℕ) → is_number x ≡ true → begins_with is_digit rest ≡ false → next_piece (x ++ rest) ≡ Some (first x, rest)
first_piece [] rest h stop = absurd (false≢true h)
first_piece (d ∷ ds) rest h stop =
    let both = and_parts (is_digit d) (list_all is_digit ds) h in
    let x : front is_digit (d ∷ (ds ++ rest)) ≡ d ∷ ds = front_ends is_digit (d ∷ ds) rest h stop in
    let y : behind is_digit (d ∷ (ds ++ rest)) ≡ rest = behind_ends is_digit (d ∷ ds) rest h stop in
    digit_piece d (ds ++ rest) both.0 ∙ ap (λ q. Some (first q, behind is_digit (d ∷ (ds ++ rest)))) x ∙ ap (λ q. Some (first (d ∷ ds), q)) y

later_piece : (x rest : List ℕ) → is_number x ≡ true → begins_with is_digit rest ≡ false → next_piece (46 ∷ (x ++ rest)) ≡ Some (later x, rest)
later_piece x rest h stop = rw (front_ends is_digit x rest (digits_of x h) stop, behind_ends is_digit x rest (digits_of x h) stop) refl

letter_piece : (b : ℕ) (rest : List ℕ) → is_small b ≡ true → next_piece (b ∷ rest) ≡ Some (letter b, rest)
letter_piece b rest h = rw (small_no_digit b h, small_no_dot b h, h) refl

count_stops : (ds rest : List ℕ) → list_all is_digit ds ≡ true → begins_with is_small rest ≡ false → begins_with is_small (ds ++ rest) ≡ false
count_stops [] rest h stop = stop
count_stops (d ∷ ds) rest h stop = digits_stop (d ∷ ds) h

suffix_behind : (k : Kind) (ds rest : List ℕ) → list_all is_digit ds ≡ true → begins_with is_small rest ≡ false → begins_with is_digit rest ≡ false
    → next_suffix (kind_text k ++ (ds ++ rest)) ≡ Some (suffix k ds, rest)
suffix_behind k ds rest h small digit =
    let stop = count_stops ds rest h small in
    rw (
      front_ends is_small (kind_text k) (ds ++ rest) (kind_small k) stop,
      behind_ends is_small (kind_text k) (ds ++ rest) (kind_small k) stop,
      named_kind k,
      front_ends is_digit ds rest h digit,
      behind_ends is_digit ds rest h digit,
    ) refl

revision_piece : (ds : List ℕ) → is_number ds ≡ true → next_piece (45 ∷ (114 ∷ ds)) ≡ Some (revision ds, [])
revision_piece ds h =
    let all = digits_of ds h in
    let x : front is_digit ds ≡ ds = ap (front is_digit) (sym (append-nil ds)) ∙ front_ends is_digit ds [] all refl in
    let y : behind is_digit ds ≡ [] = ap (behind is_digit) (sym (append-nil ds)) ∙ behind_ends is_digit ds [] all refl in
    ap (λ q. Some (revision q, behind is_digit ds)) x ∙ ap (λ q. Some (revision ds, q)) y

-- What may follow digits or a suffix's word.
body_no_digit : (ss : List (Kind × List ℕ)) (r : Option (List ℕ)) → begins_with is_digit (body ss r) ≡ false
body_no_digit [] None = refl
body_no_digit [] (Some ds) = refl
body_no_digit (s ∷ ss) r = refl

body_no_small : (ss : List (Kind × List ℕ)) (r : Option (List ℕ)) → begins_with is_small (body ss r) ≡ false
body_no_small [] None = refl
body_no_small [] (Some ds) = refl
body_no_small (s ∷ ss) r = refl

revision_pieces : (r : Option (List ℕ)) → is_revision r ≡ true → pieces_in (revision_text r) ≡ option_to_list (option_map revision r)
revision_pieces None h = refl
revision_pieces (Some ds) h = pieces_more (45 ∷ (114 ∷ ds)) (revision ds, []) (revision_piece ds h)

read_body : (ss : List (Kind × List ℕ)) (r : Option (List ℕ)) → are_suffixes ss ≡ true → is_revision r ≡ true → pieces_in (body ss r) ≡ body_pieces ss r
read_body [] r hs hr = revision_pieces r hr
read_body (s ∷ ss) r hs hr =
    let both = and_parts (list_all is_digit s.1) (are_suffixes ss) hs in
    let text : body (s ∷ ss) r ≡ 95 ∷ (kind_text s.0 ++ (s.1 ++ body ss r)) =
    append_assoc (suffix_text s) (flat_map suffix_text ss) (revision_text r) ∙ ap (λ q. 95 ∷ q) (append_assoc (kind_text s.0) s.1 (body ss r)) in
    ap pieces_in text
    ∙ pieces_more (95 ∷ (kind_text s.0 ++ (s.1 ++ body ss r))) (suffix s.0 s.1, body ss r) (suffix_behind s.0 s.1 (body ss r) both.0 (body_no_small ss r) (body_no_digit ss r))
    ∙ ap (λ ps. suffix s.0 s.1 ∷ ps) (read_body ss r both.1 hr)

abbrev end : Option ℕ → List (Kind × List ℕ) → Option (List ℕ) → List ℕ
end l ss r = option_to_list l ++ body ss r

end_no_digit : (l : Option ℕ) (ss : List (Kind × List ℕ)) (r : Option (List ℕ)) → option_map_or is_small l true ≡ true → begins_with is_digit (end l ss r) ≡ false
end_no_digit None ss r h = body_no_digit ss r
end_no_digit (Some b) ss r h = small_no_digit b h

read_end : (l : Option ℕ) (ss : List (Kind × List ℕ)) (r : Option (List ℕ)) → option_map_or is_small l true ≡ true → are_suffixes ss ≡ true → is_revision r ≡ true
    → pieces_in (end l ss r) ≡ option_to_list (option_map letter l) ++ body_pieces ss r
read_end None ss r hl hs hr = read_body ss r hs hr
read_end (Some b) ss r hl hs hr =
    pieces_more (b ∷ body ss r) (letter b, body ss r) (letter_piece b (body ss r) hl) ∙ ap (λ ps. letter b ∷ ps) (read_body ss r hs hr)

-- the components behind the first, each behind a dot, and what follows them
abbrev dotted : List (List ℕ) → List ℕ → List ℕ
dotted [] rest = rest
dotted (y ∷ ys) rest = 46 ∷ (join_with_byte 46 (y ∷ ys) ++ rest)

joined : (x : List ℕ) (xs : List (List ℕ)) (rest : List ℕ) → join_with_byte 46 (x ∷ xs) ++ rest ≡ x ++ dotted xs rest
joined x [] rest = refl
joined x (y ∷ ys) rest = append_assoc x (46 ∷ join_with_byte 46 (y ∷ ys)) rest

dotted_no_digit : (xs : List (List ℕ)) (rest : List ℕ) → begins_with is_digit rest ≡ false → begins_with is_digit (dotted xs rest) ≡ false
dotted_no_digit [] rest stop = stop
dotted_no_digit (y ∷ ys) rest stop = refl

read_dotted : (xs : List (List ℕ)) (rest : List ℕ) → list_all is_number xs ≡ true → begins_with is_digit rest ≡ false → pieces_in (dotted xs rest) ≡ map later xs ++ pieces_in rest
read_dotted [] rest h stop = refl
read_dotted (y ∷ ys) rest h stop =
    let both = and_parts (is_number y) (list_all is_number ys) h in
    ap (λ q. pieces_in (46 ∷ q)) (joined y ys rest)
    ∙ pieces_more (46 ∷ (y ++ dotted ys rest)) (later y, dotted ys rest) (later_piece y (dotted ys rest) both.0 (dotted_no_digit ys rest stop))
    ∙ ap (λ ps. later y ∷ ps) (read_dotted ys rest both.1 stop)

read_fields : (ns : List (List ℕ)) (l : Option ℕ) (ss : List (Kind × List ℕ)) (r : Option (List ℕ)) → are_parts (record { numbers = ns; letter = l; suffixes = ss; revision = r }) ≡ true
    → pieces_in (join_with_byte 46 ns ++ end l ss r) ≡ pieces_of (record { numbers = ns; letter = l; suffixes = ss; revision = r })
read_fields [] l ss r good = absurd (false≢true good)
read_fields (x ∷ xs) l ss r good =
    let first_part = and_parts (is_number x && list_all is_number xs) (option_map_or is_small l true && (are_suffixes ss && is_revision r)) good in
    let numbers = and_parts (is_number x) (list_all is_number xs) first_part.0 in
    let rest = and_parts (option_map_or is_small l true) (are_suffixes ss && is_revision r) first_part.1 in
    let last = and_parts (are_suffixes ss) (is_revision r) rest.1 in
    let stop = end_no_digit l ss r rest.0 in
    ap pieces_in (joined x xs (end l ss r))
    ∙ pieces_more (x ++ dotted xs (end l ss r)) (first x, dotted xs (end l ss r)) (first_piece x (dotted xs (end l ss r)) numbers.0 (dotted_no_digit xs (end l ss r) stop))
    ∙ ap (λ ps. first x ∷ ps) (read_dotted xs (end l ss r) numbers.1 stop ∙ ap (λ ps. map later xs ++ ps) (read_end l ss r rest.0 last.0 last.1))

pub pieces_read : (bytes : List ℕ) → has_form bytes ≡ true → pieces_in bytes ≡ pieces_of (parts_of bytes)
pieces_read bytes h =
    let form : HasForm bytes = form_says bytes h in
    let v : Parts = form.0 in
    let same : parts_of bytes ≡ v = ap parts_of (sym form.2) ∙ read_parts v form.1 in
    ap pieces_in (sym form.2) ∙ read_fields v.numbers v.letter v.suffixes v.revision form.1 ∙ ap pieces_of (sym same)

pub versions_begin : (v w : List ℕ) → is_version v ≡ true → is_version w ≡ true → is_front (pieces_in v) (pieces_in w) ≡ begins v w
versions_begin v w hv hw =
    let form_v = (and_parts (has_form v) (is_none (long_run v)) hv).0 in
    let form_w = (and_parts (has_form w) (is_none (long_run w)) hw).0 in
    ap (λ ps. is_front ps (pieces_in w)) (pieces_read v form_v) ∙ ap (is_front (pieces_of (parts_of v))) (pieces_read w form_w)
