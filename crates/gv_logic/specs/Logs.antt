-- Logs of steps over clauses: which steps follow, which logs are valid, and what they prove.
use Rattle.std.specs.Prelude.{◌≡◌, ◌⊎◌, ℕ, ◌+◌, ◌*◌, ◌<◌, nat_lt, Bool, true, false, ◌&&◌, not, if◌then◌else◌, List, [], ◌∷◌, ◌++◌, map, length, take, Option, Some, None, slice_get, slice_set, slice_index_or, replicate}
use Rattle.gv_logic.specs.Literals.{opposite}
use Rattle.gv_logic.specs.Formulas.{Formula}
use Rattle.gv_logic.specs.Partial.{is_true, all_false, unit_after}

-- a clause, and the numbers of the clauses by which it follows
pub record Step : Type 0 where
  pub clause : List ℕ
  pub hints : List ℕ

-- The start: every literal of the clause false, nothing else assigned. None where a literal is of
-- none of the variables, or stands twice, or with its opposite.
abbrev pub started : List Bool → List ℕ → Option (List Bool)
started on [] = Some on
started on (lit ∷ lits) =
    if nat_lt lit (length on) && (not (is_true on lit) && not (is_true on (opposite lit))) then started (slice_set on (opposite lit) true) lits else None

abbrev pub and_then : {X : Type 0} → Option X → (X → Bool) → Bool
and_then None f = false
and_then (Some x) f = f x

abbrev pub last_is_false : List Bool → Option (List ℕ) → Bool
last_is_false on None = false
last_is_false on (Some lits) = all_false on lits

abbrev pub unit_of : List Bool → Option (List ℕ) → Option ℕ
unit_of on None = None
unit_of on (Some lits) = unit_after on None lits

-- the same with one more literal true
abbrev pub with_unit : List Bool → Option ℕ → Option (List Bool)
with_unit on None = None
with_unit on (Some lit) = Some (slice_set on lit true)

-- Each hint but the last names a clause that has no true literal and one that isn't assigned, which
-- becomes true. The last names a clause whose literals are all false.
abbrev pub refuted : List ℕ → List (List ℕ) → List Bool → Bool
refuted [] names on = false
refuted (hint ∷ []) names on = last_is_false on (slice_get names hint)
refuted (hint ∷ next ∷ hints) names on =
    and_then (with_unit on (unit_of on (slice_get names hint))) (refuted (next ∷ hints) names)

-- whether a step follows, from the number of literals and the clauses that a hint can name
abbrev pub follows : ℕ → List (List ℕ) → List ℕ → List ℕ → Bool
follows n names clause hints = and_then (started (replicate n false) clause) (refuted hints names)

-- The first step that doesn't follow. Number j below the number of clauses names a clause, and the
-- numbers behind them name the clauses of the steps.
abbrev pub first_refused : ℕ → List (List ℕ) → List Step → ℕ → Option ℕ
first_refused n names [] k = None
first_refused n names (s ∷ ss) k =
    if follows n names s.clause s.hints then first_refused n (names ++ s.clause ∷ []) ss (k + 1) else Some k

-- each step follows from the clauses and the earlier steps
abbrev pub IsValid : Formula → List Step → Type 0
IsValid f log = first_refused (2 * f.variables) f.clauses log 0 ≡ None

abbrev pub step_clauses : List Step → List (List ℕ)
step_clauses ss = map (λ s. s.clause) ss

abbrev pub HasList : List ℕ → List (List ℕ) → Type 0
HasList c [] = ⊥
HasList c (x ∷ xs) = (x ≡ c) ⊎ HasList c xs

-- some step has the empty clause
abbrev pub ProvesNone : List Step → Type 0
ProvesNone log = HasList [] (step_clauses log)

-- the clause of a set of inputs: their literals
abbrev pub set_clause : List ℕ → List ℕ
set_clause [] = []
set_clause (i ∷ is) = 2 * i ∷ set_clause is

-- the places of the bits that are off, counted from p
abbrev pub offs : ℕ → List Bool → List ℕ
offs p [] = []
offs p (b ∷ bs) = if b then offs (p + 1) bs else p ∷ offs (p + 1) bs

-- an input, and those below it that are off, in rising order
abbrev pub least_set : List Bool → ℕ → List ℕ
least_set bits i = offs 0 (take i bits) ++ i ∷ []

-- for each input that is on, some step says that it or a lower one that is off has to be on
abbrev pub ProvesLeast : List Step → List Bool → Type 0
ProvesLeast log bits =
    (i : ℕ) → i < length bits → slice_index_or bits i false ≡ true → HasList (set_clause (least_set bits i)) (step_clauses log)
