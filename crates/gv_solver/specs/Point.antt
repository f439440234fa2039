-- The way back from a conflict to its first implication point: words of private functions.
use Rattle.std.specs.Prelude.{◌≡◌, ◌⊎◌, ℕ, ◌+◌, ◌*◌, ◌<◌, Bool, true, false, Option, Some, None, List, [], ◌∷◌, length, take, get_or, replicate}
use Rattle.gv_logic.specs.Literals.{opposite}
use Rattle.gv_logic.specs.Logs.{started, refuted}
use Rattle.gv_logic.specs.Partial.{is_true, Has}
use Rattle.gv_solver.specs.Marks.{Below}
use Rattle.gv_solver.specs.declared.point.Way.{Way}
use Rattle.gv_trail.specs.Entries.{State, assignment, lits_of, made_true}

-- the hints, from numbers with the last first, and those behind
abbrev pub hints_back : List ℕ → List ℕ → List ℕ
hints_back [] rest = rest
hints_back (k ∷ ks) rest = hints_back ks (k ∷ rest)

-- Between the literals `at` that were not met yet and all of the trail: the clause's literals are
-- false, the marked literals of `at` are true, and nothing else is assigned but of `at`.
pub record IsBetween (at whole marks : List Bool) (lits : List ℕ) (on : List Bool) : Type 0 where
  pub size : length on ≡ length at
  pub below : Below on whole
  pub clause : (l : ℕ) → Has l lits → is_true on (opposite l) ≡ true
  pub marked : (l : ℕ) → is_true at l ≡ true → is_true marks l ≡ true → is_true on l ≡ true
  pub only : (l : ℕ) → is_true on l ≡ true → (is_true at l ≡ true) ⊎ Has (opposite l) lits

-- What stands where the literals of `at` were not met yet, `none` being no literals: a step can start
-- with the clause, which is of literals behind, and the reasons refute all that lies between.
pub record IsBack (cs : List (List ℕ)) (none at whole marks : List Bool) (clause reasons : List ℕ) (conflict : ℕ) : Type 0 where
  pub size : length marks ≡ length none
  pub start : List Bool
  pub starts : started none clause ≡ Some start
  pub false_ : IsBetween none whole marks clause start
  pub behind : (l : ℕ) → Has l clause → is_true at (opposite l) ≡ false
  pub refutes : (on : List Bool) → IsBetween at whole marks clause on → refuted (hints_back reasons (conflict ∷ [])) cs on ≡ true

-- the same of a way back, with so many entries not met yet
abbrev pub IsWay : List (List ℕ) → State → ℕ → ℕ → Way → Type 0
IsWay cs s conflict n w =
    IsBack cs (replicate (2 * s.variables) false) (made_true (replicate (2 * s.variables) false) (take n s.entries)) (assignment s) w.marks.items w.clause w.reasons.items conflict

-- nothing but marks and counts
pub record IsSameClause (old new : Way) : Type 0 where
  pub clause : new.clause ≡ old.clause
  pub reasons : new.reasons ≡ old.reasons

-- the literal is marked if it is true
pub record Needs (whole : List Bool) (lit : ℕ) (old new : Way) : Type 0 where
  pub same : IsSameClause old new
  pub size : length new.marks.items ≡ length old.marks.items
  pub more : Below old.marks.items new.marks.items
  pub marked : is_true whole lit ≡ true → is_true new.marks.items lit ≡ true

-- what makes the clause's literals false is marked, but for those of `rest`
pub record NeedsRest (whole : List Bool) (lits rest : List ℕ) (old new : Way) : Type 0 where
  pub same : IsSameClause old new
  pub size : length new.marks.items ≡ length old.marks.items
  pub more : Below old.marks.items new.marks.items
  pub marked : (x : ℕ) → Has x lits → is_true whole (opposite x) ≡ true → (is_true new.marks.items (opposite x) ≡ true) ⊎ Has x rest

abbrev pub NeedsAll : List Bool → List ℕ → Way → Way → Type 0
NeedsAll whole lits old new = NeedsRest whole lits [] old new

abbrev pub NeedsClause : List Bool → Option (List ℕ) → Way → Way → Type 0
NeedsClause whole None old new = new ≡ old
NeedsClause whole (Some lits) old new = NeedsAll whole lits old new

-- the entry of that literal was met
abbrev pub Passes : List (List ℕ) → State → ℕ → Way → Way → Type 0
Passes cs s lit old new =
    (conflict n : ℕ) → n < length s.entries → get_or (lits_of s.entries) n 0 ≡ lit → IsWay cs s conflict (n + 1) old → IsWay cs s conflict n new
