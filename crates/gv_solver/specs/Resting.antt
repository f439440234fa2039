-- The decisions on which a false clause rests, as the code finds them: words of private functions, on which no
-- public clause rests.
use Rattle.std.specs.Prelude.{ℕ, ◌/◌, ◌*◌, Bool, true, false, if◌then◌else◌, Option, Some, None, List, [], ◌∷◌, slice_get, slice_set, replicate}
use Rattle.gv_logic.specs.Literals.{opposite}
use Rattle.gv_logic.specs.Partial.{is_true}
use Rattle.gv_trail.specs.Entries.{Entry, State, lits_of, reason_of}

-- the opposites of a clause's literals marked
abbrev pub marked_against : List Bool → List ℕ → List Bool
marked_against m [] = m
marked_against m (x ∷ xs) = marked_against (slice_set m (opposite x) true) xs

abbrev pub against_clause : List Bool → Option (List ℕ) → List Bool
against_clause m None = m
against_clause m (Some lits) = marked_against m lits

abbrev pub against_reason : List (List ℕ) → List Bool → Option ℕ → List Bool
against_reason cs m None = m
against_reason cs m (Some k) = against_clause m (slice_get cs k)

-- a literal that is marked marks what its reason rests on
abbrev pub needed_at : List (List ℕ) → List Bool → ℕ → Option ℕ → List Bool
needed_at cs m lit reason = if is_true m lit then against_reason cs m reason else m

-- the last entries first
abbrev pub needed : List (List ℕ) → List Entry → List Bool → List Bool
needed cs [] m = m
needed cs (e ∷ es) m = needed_at cs (needed cs es m) e.lit e.reason

abbrev pub rests_at : List Bool → ℕ → Option ℕ → List ℕ → List ℕ
rests_at m lit None rest = if is_true m lit then lit / 2 ∷ rest else rest
rests_at m lit (Some k) rest = rest

-- the decisions that are marked
abbrev pub rests : List Bool → List Entry → List ℕ
rests m [] = []
rests m (e ∷ es) = rests_at m e.lit e.reason (rests m es)

-- the same of literals whose reasons are looked up
abbrev pub needed_by : List (List ℕ) → (ℕ → Option ℕ) → List ℕ → List Bool → List Bool
needed_by cs reason [] m = m
needed_by cs reason (l ∷ ls) m = needed_at cs (needed_by cs reason ls m) l (reason l)

abbrev pub rests_by : List Bool → (ℕ → Option ℕ) → List ℕ → List ℕ
rests_by m reason [] = []
rests_by m reason (l ∷ ls) = rests_at m l (reason l) (rests_by m reason ls)

abbrev pub reasons : State → ℕ → Option ℕ
reasons s lit = reason_of lit s.entries

abbrev pub marks_by : List (List ℕ) → State → ℕ → List Bool
marks_by cs s k = needed_by cs (reasons s) (lits_of s.entries) (against_clause (replicate (2 * s.variables) false) (slice_get cs k))

abbrev pub rests_on : List (List ℕ) → State → ℕ → List ℕ
rests_on cs s k = rests_by (marks_by cs s k) (reasons s) (lits_of s.entries)
