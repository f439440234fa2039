-- Comparing piece by piece comes to comparing part by part.
use Rattle.std.proofs.Common.{◌≡◌, ℕ, Bool, true, false, List, [], ◌∷◌, ◌++◌, map, refl, ap, sym, ◌∙◌, if◌then◌else◌, Option, Some, None}
use Rattle.std.proofs.lemmas.Cmp.{nat_cmp_total}
use Rattle.std.proofs.lemmas.Bool.{and_parts}
use Rattle.std.specs.Prelude.{◌==◌, is_none, option_to_list, option_map}
use Rattle.std.specs.Ordering.{nat_cmp, ordering_then, ordering_reverse}
use Rattle.std.specs.declared.cmp.Ordering.{Ordering}
use Rattle.std.specs.declared.cmp.Ordering.TheVariants.{Less, Equal, Greater}
use Rattle.gv_version.specs.Form.{Parts, has_form, long_run, is_version, parts_of}
use Rattle.gv_version.specs.Order.{number_of, rank, revision_number, cmp_later, cmp_laters, cmp_numbers, cmp_letters, cmp_suffix, cmp_suffixes, cmp_more, cmp_parts, compare}
use Rattle.gv_version.specs.Pieces.{Piece, first, later, letter, revision, number_pieces, pieces_of}
use Rattle.gv_version.specs.PieceReading.{cmp_pieces, pieces_in}
use Rattle.gv_version.specs.declared.pieces.Kind.{Kind}
use Rattle.gv_version.specs.TotalDigits.{then_equal}
use Rattle.gv_version.proofs.Integers.{then_then}
use Rattle.gv_version.proofs.PartsLaw.{body_pieces, pieces_read}

abbrev revision_pieces : Option (List ℕ) → List Piece
revision_pieces r = option_to_list (option_map revision r)

abbrev cmp_revisions : Option (List ℕ) → Option (List ℕ) → Ordering
cmp_revisions r s = nat_cmp (revision_number r) (revision_number s)

revisions : (r s : Option (List ℕ)) → cmp_pieces (revision_pieces r) (revision_pieces s) ≡ cmp_revisions r s
revisions None None = refl
revisions None (Some y) = sym (nat_cmp_total.antisymm 0 (number_of y))
revisions (Some x) None = refl
revisions (Some x) (Some y) = then_equal (nat_cmp (number_of x) (number_of y))

-- a suffix against none decides
fewer : (k : Kind) (o p : Ordering) → ordering_then (ordering_reverse (if rank k == 4 then Greater else Less)) o ≡ ordering_then (if rank k == 4 then Less else Greater) p
fewer k o p = by (rank k == 4)
  where
    by : (u : Bool) → ordering_then (ordering_reverse (if u then Greater else Less)) o ≡ ordering_then (if u then Less else Greater) p
    by true = refl
    by false = refl

more : (k : Kind) (o p : Ordering) → ordering_then (if rank k == 4 then Greater else Less) o ≡ ordering_then (if rank k == 4 then Greater else Less) p
more k o p = by (rank k == 4)
  where
    by : (u : Bool) → ordering_then (if u then Greater else Less) o ≡ ordering_then (if u then Greater else Less) p
    by true = refl
    by false = refl

bodies : (ss ts : List (Kind × List ℕ)) (r s : Option (List ℕ)) → cmp_pieces (body_pieces ss r) (body_pieces ts s) ≡ ordering_then (cmp_suffixes ss ts) (cmp_revisions r s)
bodies [] [] r s = revisions r s
bodies [] (t ∷ ts) None s = sym (then_equal (ordering_reverse (cmp_more t))) ∙ fewer t.0 Equal (cmp_revisions None s)
bodies [] (t ∷ ts) (Some x) s = fewer t.0 (cmp_pieces [] (body_pieces ts s)) (cmp_revisions (Some x) s)
bodies (t ∷ ts) [] r None = sym (then_equal (cmp_more t)) ∙ more t.0 Equal (cmp_revisions r None)
bodies (t ∷ ts) [] r (Some y) = more t.0 (cmp_pieces (body_pieces ts r) []) (cmp_revisions r (Some y))
bodies (t ∷ ts) (u ∷ us) r s =
    ap (ordering_then (cmp_suffix t u)) (bodies ts us r s) ∙ sym (then_then (cmp_suffix t u) (cmp_suffixes ts us) (cmp_revisions r s))

abbrev end_pieces : Option ℕ → List (Kind × List ℕ) → Option (List ℕ) → List Piece
end_pieces l ss r = option_to_list (option_map letter l) ++ body_pieces ss r

abbrev cmp_ends : (l m : Option ℕ) → (ss ts : List (Kind × List ℕ)) → (r s : Option (List ℕ)) → Ordering
cmp_ends l m ss ts r s = ordering_then (cmp_letters l m) (ordering_then (cmp_suffixes ss ts) (cmp_revisions r s))

no_letter : (ss : List (Kind × List ℕ)) (r : Option (List ℕ)) (b : ℕ) (qs : List Piece) → cmp_pieces (body_pieces ss r) (letter b ∷ qs) ≡ Less
no_letter [] None b qs = refl
no_letter [] (Some x) b qs = refl
no_letter (s ∷ ss) r b qs = refl

a_letter : (ss : List (Kind × List ℕ)) (r : Option (List ℕ)) (b : ℕ) (qs : List Piece) → cmp_pieces (letter b ∷ qs) (body_pieces ss r) ≡ Greater
a_letter [] None b qs = refl
a_letter [] (Some x) b qs = refl
a_letter (s ∷ ss) r b qs = refl

ends : (l m : Option ℕ) (ss ts : List (Kind × List ℕ)) (r s : Option (List ℕ)) → cmp_pieces (end_pieces l ss r) (end_pieces m ts s) ≡ cmp_ends l m ss ts r s
ends None None ss ts r s = bodies ss ts r s
ends None (Some b) ss ts r s = no_letter ss r b (body_pieces ts s)
ends (Some a) None ss ts r s = a_letter ts s a (body_pieces ss r)
ends (Some a) (Some b) ss ts r s = ap (ordering_then (nat_cmp a b)) (bodies ss ts r s)

no_later : (l : Option ℕ) (ss : List (Kind × List ℕ)) (r : Option (List ℕ)) (y : List ℕ) (qs : List Piece) → cmp_pieces (end_pieces l ss r) (later y ∷ qs) ≡ Less
no_later None [] None y qs = refl
no_later None [] (Some x) y qs = refl
no_later None (s ∷ ss) r y qs = refl
no_later (Some b) ss r y qs = refl

a_later : (l : Option ℕ) (ss : List (Kind × List ℕ)) (r : Option (List ℕ)) (y : List ℕ) (qs : List Piece) → cmp_pieces (later y ∷ qs) (end_pieces l ss r) ≡ Greater
a_later None [] None y qs = refl
a_later None [] (Some x) y qs = refl
a_later None (s ∷ ss) r y qs = refl
a_later (Some b) ss r y qs = refl

laters : (xs ys : List (List ℕ)) (l m : Option ℕ) (ss ts : List (Kind × List ℕ)) (r s : Option (List ℕ))
    → cmp_pieces (map later xs ++ end_pieces l ss r) (map later ys ++ end_pieces m ts s) ≡ ordering_then (cmp_laters xs ys) (cmp_ends l m ss ts r s)
laters [] [] l m ss ts r s = ends l m ss ts r s
laters [] (y ∷ ys) l m ss ts r s = no_later l ss r y (map later ys ++ end_pieces m ts s)
laters (x ∷ xs) [] l m ss ts r s = a_later m ts s x (map later xs ++ end_pieces l ss r)
laters (x ∷ xs) (y ∷ ys) l m ss ts r s =
    ap (ordering_then (cmp_later x y)) (laters xs ys l m ss ts r s) ∙ sym (then_then (cmp_later x y) (cmp_laters xs ys) (cmp_ends l m ss ts r s))

no_first : (l : Option ℕ) (ss : List (Kind × List ℕ)) (r : Option (List ℕ)) (y : List ℕ) (qs : List Piece) → cmp_pieces (end_pieces l ss r) (first y ∷ qs) ≡ Less
no_first None [] None y qs = refl
no_first None [] (Some x) y qs = refl
no_first None (s ∷ ss) r y qs = refl
no_first (Some b) ss r y qs = refl

a_first : (l : Option ℕ) (ss : List (Kind × List ℕ)) (r : Option (List ℕ)) (y : List ℕ) (qs : List Piece) → cmp_pieces (first y ∷ qs) (end_pieces l ss r) ≡ Greater
a_first None [] None y qs = refl
a_first None [] (Some x) y qs = refl
a_first None (s ∷ ss) r y qs = refl
a_first (Some b) ss r y qs = refl

numbers : (xs ys : List (List ℕ)) (l m : Option ℕ) (ss ts : List (Kind × List ℕ)) (r s : Option (List ℕ))
    → cmp_pieces (number_pieces xs ++ end_pieces l ss r) (number_pieces ys ++ end_pieces m ts s) ≡ ordering_then (cmp_numbers xs ys) (cmp_ends l m ss ts r s)
numbers [] [] l m ss ts r s = ends l m ss ts r s
numbers [] (y ∷ ys) l m ss ts r s = no_first l ss r y (map later ys ++ end_pieces m ts s)
numbers (x ∷ xs) [] l m ss ts r s = a_first m ts s x (map later xs ++ end_pieces l ss r)
numbers (x ∷ xs) (y ∷ ys) l m ss ts r s =
    ap (ordering_then (nat_cmp (number_of x) (number_of y))) (laters xs ys l m ss ts r s)
    ∙ sym (then_then (nat_cmp (number_of x) (number_of y)) (cmp_laters xs ys) (cmp_ends l m ss ts r s))

regrouped : (n l s r : Ordering) → ordering_then (ordering_then n (ordering_then l s)) r ≡ ordering_then n (ordering_then l (ordering_then s r))
regrouped n l s r = then_then n (ordering_then l s) r ∙ ap (ordering_then n) (then_then l s r)

parts_cmp : (v w : Parts) → cmp_pieces (pieces_of v) (pieces_of w) ≡ cmp_parts v w
parts_cmp v w =
    numbers v.numbers w.numbers v.letter w.letter v.suffixes w.suffixes v.revision w.revision
    ∙ sym (regrouped (cmp_numbers v.numbers w.numbers) (cmp_letters v.letter w.letter) (cmp_suffixes v.suffixes w.suffixes) (cmp_revisions v.revision w.revision))

pub pieces_cmp : (a b : List ℕ) → has_form a ≡ true → has_form b ≡ true → cmp_pieces (pieces_in a) (pieces_in b) ≡ compare a b
pieces_cmp a b ha hb =
    ap (λ ps. cmp_pieces ps (pieces_in b)) (pieces_read a ha) ∙ ap (cmp_pieces (pieces_of (parts_of a))) (pieces_read b hb) ∙ parts_cmp (parts_of a) (parts_of b)

pub form_of : (a : List ℕ) → is_version a ≡ true → has_form a ≡ true
form_of a h = (and_parts (has_form a) (is_none (long_run a)) h).0

pub versions_cmp : (a b : List ℕ) → is_version a ≡ true → is_version b ≡ true → cmp_pieces (pieces_in a) (pieces_in b) ≡ compare a b
versions_cmp a b ha hb = pieces_cmp a b (form_of a ha) (form_of b hb)
