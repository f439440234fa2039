-- For private contracts: two lists in order, put together.
use Rattle.std.specs.Prelude.{Bool, false, cond, List, [], ◌∷◌, ◌++◌}
use Rattle.std.specs.Ordering.{is_lt}
use Rattle.std.specs.declared.cmp.Ordering.{Ordering}

-- the first comes before x
abbrev pub is_next : {K : Type 0} → (cmp : K → K → Ordering) → K → List K → Bool
is_next cmp x [] = false
is_next cmp x (k ∷ ks) = is_lt (cmp k x)

-- those in front that come before x, and the others
abbrev pub ahead : {K : Type 0} → (cmp : K → K → Ordering) → K → List K → List K
ahead cmp x [] = []
ahead cmp x (k ∷ ks) = cond (is_lt (cmp k x)) (k ∷ ahead cmp x ks) []

abbrev pub left : {K : Type 0} → (cmp : K → K → Ordering) → K → List K → List K
left cmp x [] = []
left cmp x (k ∷ ks) = cond (is_lt (cmp k x)) (left cmp x ks) (k ∷ ks)

abbrev pub interleaved : {K : Type 0} → (cmp : K → K → Ordering) → List K → List K → List K
interleaved cmp [] ks = ks
interleaved cmp (x ∷ xs) ks = ahead cmp x ks ++ x ∷ interleaved cmp xs (left cmp x ks)
