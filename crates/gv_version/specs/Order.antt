-- The order of versions (PMS chapter 3): numbers, letter, suffixes, revision; the first part that differs decides.
use Rattle.std.specs.Prelude.{ℕ, ◌+◌, ◌-◌, ◌*◌, ◌==◌, Bool, ◌||◌, if◌then◌else◌, List, [], ◌∷◌, Option, None, Some, fold}
use Rattle.std.specs.Option.{option_map_or}
use Rattle.std.specs.List.{list_all}
use Rattle.std.specs.Str.{byte}
use Rattle.std.specs.declared.cmp.Ordering.{Ordering}
use Rattle.std.specs.declared.cmp.Ordering.TheVariants.{Less, Equal, Greater}
use Rattle.std.specs.Ordering.{nat_cmp, ordering_then, is_eq}
use Rattle.std.specs.Cmp.Lexicographic.{slice_cmp}
use Rattle.gv_version.specs.Bytes.{begins_with}
use Rattle.gv_version.specs.Form.{Parts, parts_of}
use Rattle.gv_version.specs.declared.pieces.Kind.{Kind}
use Rattle.gv_version.specs.declared.pieces.Kind.TheVariants.{Alpha, Beta, Pre, Rc, Patch}

abbrev pub number_of : List ℕ → ℕ
number_of digits = fold (λ n d. 10 * n + (d - 48)) 0 digits

abbrev pub is_zero : ℕ → Bool
is_zero b = b == byte "0"

-- without the zeros at the end
abbrev pub stripped : List ℕ → List ℕ
stripped [] = []
stripped (d ∷ ds) = if list_all is_zero (d ∷ ds) then [] else d ∷ stripped ds

-- a numeric component behind the first
abbrev pub cmp_later : List ℕ → List ℕ → Ordering
cmp_later x y =
    if begins_with is_zero x || begins_with is_zero y then slice_cmp nat_cmp (stripped x) (stripped y)
    else nat_cmp (number_of x) (number_of y)

abbrev pub cmp_laters : List (List ℕ) → List (List ℕ) → Ordering
cmp_laters [] [] = Equal
cmp_laters [] (y ∷ ys) = Less
cmp_laters (x ∷ xs) [] = Greater
cmp_laters (x ∷ xs) (y ∷ ys) = ordering_then (cmp_later x y) (cmp_laters xs ys)

abbrev pub cmp_numbers : List (List ℕ) → List (List ℕ) → Ordering
cmp_numbers [] [] = Equal
cmp_numbers [] (y ∷ ys) = Less
cmp_numbers (x ∷ xs) [] = Greater
cmp_numbers (x ∷ xs) (y ∷ ys) = ordering_then (nat_cmp (number_of x) (number_of y)) (cmp_laters xs ys)

-- no letter is least
abbrev pub cmp_letters : Option ℕ → Option ℕ → Ordering
cmp_letters None None = Equal
cmp_letters None (Some b) = Less
cmp_letters (Some a) None = Greater
cmp_letters (Some a) (Some b) = nat_cmp a b

abbrev pub rank : Kind → ℕ
rank Alpha = 0
rank Beta = 1
rank Pre = 2
rank Rc = 3
rank Patch = 4

abbrev pub cmp_suffix : Kind × List ℕ → Kind × List ℕ → Ordering
cmp_suffix s t = ordering_then (nat_cmp (rank s.0) (rank t.0)) (nat_cmp (number_of s.1) (number_of t.1))

-- a suffix against none: only `_p` makes a version greater
abbrev pub cmp_more : Kind × List ℕ → Ordering
cmp_more s = if rank s.0 == 4 then Greater else Less

abbrev pub cmp_fewer : Kind × List ℕ → Ordering
cmp_fewer s = if rank s.0 == 4 then Less else Greater

abbrev pub cmp_suffixes : List (Kind × List ℕ) → List (Kind × List ℕ) → Ordering
cmp_suffixes [] [] = Equal
cmp_suffixes [] (t ∷ ts) = cmp_fewer t
cmp_suffixes (s ∷ ss) [] = cmp_more s
cmp_suffixes (s ∷ ss) (t ∷ ts) = ordering_then (cmp_suffix s t) (cmp_suffixes ss ts)

-- no revision is 0
abbrev pub revision_number : Option (List ℕ) → ℕ
revision_number r = option_map_or number_of r 0

abbrev pub cmp_but_revision : Parts → Parts → Ordering
cmp_but_revision v w = ordering_then (cmp_numbers v.numbers w.numbers)
    (ordering_then (cmp_letters v.letter w.letter) (cmp_suffixes v.suffixes w.suffixes))

abbrev pub cmp_parts : Parts → Parts → Ordering
cmp_parts v w = ordering_then (cmp_but_revision v w) (nat_cmp (revision_number v.revision) (revision_number w.revision))

-- two versions by their texts
abbrev pub compare : List ℕ → List ℕ → Ordering
compare a b = cmp_parts (parts_of a) (parts_of b)

abbrev pub same_but_revision : List ℕ → List ℕ → Bool
same_but_revision a b = is_eq (cmp_but_revision (parts_of a) (parts_of b))
