-- How the program reads versions piece by piece, for the contracts of private functions. In a version the
-- pieces that are read are those of its parts, and comparing them in turn comes to comparing part by part.
use Rattle.std.specs.Prelude.{ℕ, zero, suc, ◌==◌, nat_lt, Bool, true, if◌then◌else◌, List, [], ◌∷◌, length, Option, None, Some, option_map}
use Rattle.std.specs.Borrow.{Bor}
use Rattle.std.specs.List.{list_all}
use Rattle.std.specs.Str.{byte}
use Rattle.std.specs.declared.cmp.Ordering.{Ordering}
use Rattle.std.specs.declared.cmp.Ordering.TheVariants.{Equal, Greater}
use Rattle.std.specs.Ordering.{nat_cmp, ordering_then, ordering_reverse}
use Rattle.gv_version.specs.Bytes.{is_digit, is_small, front, behind}
use Rattle.gv_version.specs.Form.{kind_named}
use Rattle.gv_version.specs.Order.{number_of, cmp_later, cmp_suffix, cmp_more}
use Rattle.gv_version.specs.Pieces.{Piece, first, later, letter, suffix, revision}
use Rattle.gv_version.specs.declared.pieces.Piece as code
use Rattle.gv_version.specs.declared.pieces.Piece.TheVariants as code_variants

-- what the program's piece shows
abbrev pub shown_piece : code.Piece → Piece
shown_piece (code_variants.First digits) = first digits.now
shown_piece (code_variants.Later digits) = later digits.now
shown_piece (code_variants.Letter b) = letter b
shown_piece (code_variants.Suffix kind digits) = suffix kind digits.now
shown_piece (code_variants.Revision digits) = revision digits.now

abbrev pub shown : code.Piece × Bor (List ℕ) → Piece × List ℕ
shown p = (shown_piece p.0, p.1.now)

abbrev pub are_digits : Piece → Bool
are_digits (first digits) = list_all is_digit digits
are_digits (later digits) = list_all is_digit digits
are_digits (letter b) = true
are_digits (suffix kind digits) = list_all is_digit digits
are_digits (revision digits) = list_all is_digit digits

-- behind an underscore
abbrev pub next_suffix : List ℕ → Option (Piece × List ℕ)
next_suffix bytes = option_map (λ kind. (suffix kind (front is_digit (behind is_small bytes)), behind is_digit (behind is_small bytes))) (kind_named (front is_small bytes))

-- behind a hyphen
abbrev pub next_revision : List ℕ → Option (Piece × List ℕ)
next_revision [] = None
next_revision (r ∷ bytes) = Some (revision (front is_digit bytes), behind is_digit bytes)

-- the first piece, and what follows it
abbrev pub next_piece : List ℕ → Option (Piece × List ℕ)
next_piece [] = None
next_piece (b ∷ bs) =
    if is_digit b then Some (first (front is_digit (b ∷ bs)), behind is_digit (b ∷ bs)) else
    if b == byte "." then Some (later (front is_digit bs), behind is_digit bs) else
    if is_small b then Some (letter b, bs) else
    if b == byte "_" then next_suffix bs else
    if b == byte "-" then next_revision bs else None

-- the pieces, of which there are no more than bytes
abbrev pub pieces_within : ℕ → List ℕ → List Piece
pieces_within zero bytes = []
pieces_within (suc n) bytes = elim (next_piece bytes) [ None ↦ [] | Some p ↦ p.0 ∷ pieces_within n p.1 ]

abbrev pub pieces_in : List ℕ → List Piece
pieces_in bytes = pieces_within (length bytes) bytes

-- a piece against none
abbrev pub cmp_some : Piece → Ordering
cmp_some (first digits) = Greater
cmp_some (later digits) = Greater
cmp_some (letter b) = Greater
cmp_some (suffix kind digits) = cmp_more (kind, digits)
cmp_some (revision digits) = nat_cmp (number_of digits) 0

-- which part a piece belongs to
abbrev pub part_of : Piece → ℕ
part_of (first digits) = 0
part_of (later digits) = 1
part_of (letter b) = 2
part_of (suffix kind digits) = 3
part_of (revision digits) = 4

-- pieces of different parts: one of the versions lacks a piece of the earlier part
abbrev pub cmp_apart : Piece → Piece → Ordering
cmp_apart p q = if nat_lt (part_of p) (part_of q) then cmp_some p else ordering_reverse (cmp_some q)

abbrev pub cmp_piece : Piece → Piece → Ordering
cmp_piece (first x) (first y) = nat_cmp (number_of x) (number_of y)
cmp_piece (later x) (later y) = cmp_later x y
cmp_piece (letter a) (letter b) = nat_cmp a b
cmp_piece (suffix k x) (suffix l y) = cmp_suffix (k, x) (l, y)
cmp_piece (revision x) (revision y) = nat_cmp (number_of x) (number_of y)
cmp_piece p q = cmp_apart p q

abbrev pub cmp_pieces : List Piece → List Piece → Ordering
cmp_pieces [] [] = Equal
cmp_pieces [] (q ∷ qs) = ordering_reverse (cmp_some q)
cmp_pieces (p ∷ ps) [] = cmp_some p
cmp_pieces (p ∷ ps) (q ∷ qs) = ordering_then (cmp_piece p q) (cmp_pieces ps qs)
