-- The list by which `=V*` compares (PMS chapter 8; the list is this project's): V's pieces are a front of the candidate's.
use Rattle.std.specs.Prelude.{ℕ, ◌==◌, Bool, true, false, ◌&&◌, List, [], ◌∷◌, ◌++◌, map, option_to_list, option_map}
use Rattle.std.specs.Ordering.{is_eq}
use Rattle.gv_version.specs.Form.{Parts, parts_of}
use Rattle.gv_version.specs.declared.pieces.Kind.{Kind}
use Rattle.gv_version.specs.Order.{number_of, cmp_later, cmp_suffix}

pub data Piece : Type 0 where
  first : (digits : List ℕ) → Piece
  later : (digits : List ℕ) → Piece
  letter : (byte : ℕ) → Piece
  suffix : (kind : Kind) → (digits : List ℕ) → Piece
  revision : (digits : List ℕ) → Piece

abbrev pub number_pieces : List (List ℕ) → List Piece
number_pieces [] = []
number_pieces (x ∷ xs) = first x ∷ map later xs

abbrev pub pieces_of : Parts → List Piece
pieces_of v = number_pieces v.numbers ++ (option_to_list (option_map letter v.letter)
    ++ (map (λ s. suffix s.0 s.1) v.suffixes ++ option_to_list (option_map revision v.revision)))

-- whether two pieces of the same kind are equal in the order of versions
abbrev pub agrees : Piece → Piece → Bool
agrees (first x) (first y) = number_of x == number_of y
agrees (later x) (later y) = is_eq (cmp_later x y)
agrees (letter a) (letter b) = a == b
agrees (suffix k x) (suffix l y) = is_eq (cmp_suffix (k, x) (l, y))
agrees (revision x) (revision y) = number_of x == number_of y
agrees p q = false

abbrev pub is_front : List Piece → List Piece → Bool
is_front [] ws = true
is_front (v ∷ vs) [] = false
is_front (v ∷ vs) (w ∷ ws) = agrees v w && is_front vs ws

abbrev pub begins : List ℕ → List ℕ → Bool
begins v w = is_front (pieces_of (parts_of v)) (pieces_of (parts_of w))
