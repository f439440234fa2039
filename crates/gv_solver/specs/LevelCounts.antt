-- How a way back counts the literals of the conflict's level: words of private functions.
use Rattle.std.specs.Prelude.{◌≡◌, ◌⊎◌, ℕ, ◌+◌, ◌<◌, ◌≤◌, ◌^◌, nat_eq, Bool, true, false, ◌&&◌, if◌then◌else◌, Option, Some, None, List, [], ◌∷◌, length, take, get_or}
use Rattle.gv_logic.specs.Literals.{opposite}
use Rattle.gv_logic.specs.Partial.{is_true, Has}
use Rattle.gv_solver.specs.Clash.{Derived}
use Rattle.gv_solver.specs.declared.point.Way.{Way}
use Rattle.gv_trail.specs.Entries.{Entry, State, assignment, lits_of, level_of, reason_of}
use Rattle.gv_trail.specs.Watches.{IsIn}

abbrev pub one : Bool → ℕ
one b = if b then 1 else 0

abbrev pub is_level : ℕ → Option ℕ → Bool
is_level level None = false
is_level level (Some k) = nat_eq k level

-- how many of the literals are false by an entry of the level
abbrev pub at_level : ℕ → List Entry → List ℕ → ℕ
at_level level es [] = 0
at_level level es (l ∷ ls) = one (is_level level (level_of (opposite l) es)) + at_level level es ls

-- how many entries of the level are marked
abbrev pub waiting : ℕ → List Bool → List Entry → ℕ
waiting level m [] = 0
waiting level m (e ∷ es) = one (nat_eq e.level level && is_true m e.lit) + waiting level m es

-- With so many entries not met yet: how many of them are marked and of the level is counted, and some
-- is, until the point was found; from then on none is, and the clause has the point alone of the level.
abbrev pub IsCountedBy : State → ℕ → Bool → ℕ → List Bool → List ℕ → Type 0
IsCountedBy s n false unmet marks clause = (unmet ≡ waiting s.level marks (take n s.entries)) × (0 < unmet) × (at_level s.level s.entries clause ≡ 0)
IsCountedBy s n true unmet marks clause = (waiting s.level marks (take n s.entries) ≡ 0) × (at_level s.level s.entries clause ≡ 1)

pub record IsCounted (s : State) (n : ℕ) (w : Way) : Type 0 where
  pub level : w.level ≡ s.level
  pub counted : IsCountedBy s n w.found w.unmet w.marks.items w.clause

-- what is counted of the first n entries goes on being so, where the literals are among them
pub record Counts (s : State) (lits : List ℕ) (old new : Way) : Type 0 where
  pub level : new.level ≡ old.level
  pub found : new.found ≡ old.found
  pub exact : (cs : List (List ℕ)) (n : ℕ) → Derived cs s → length s.entries < 2 ^ 60 → old.level ≡ s.level
      → ((x : ℕ) → Has x lits → is_true (assignment s) (opposite x) ≡ true → (e : Entry) × IsIn e (take n s.entries) × (e.lit ≡ opposite x))
      → old.unmet ≡ waiting s.level old.marks.items (take n s.entries) → new.unmet ≡ waiting s.level new.marks.items (take n s.entries)

abbrev pub CountsClause : State → Option (List ℕ) → Way → Way → Type 0
CountsClause s None old new = new ≡ old
CountsClause s (Some lits) old new = Counts s lits old new

-- a literal is counted, where it is of the level
abbrev pub Notes : Bool → Way → Way → Type 0
Notes of_level old new =
    (new.level ≡ old.level) × (new.found ≡ old.found) × (new.marks ≡ old.marks) × (new.reasons ≡ old.reasons) × (new.clause ≡ old.clause) × (old.unmet < 2 ^ 60 → new.unmet ≡ old.unmet + one of_level)

-- of a literal of the level: none is taken behind the point, the last one that is counted is the point
abbrev pub Points : State → ℕ → Way → Way → Option ℕ → Type 0
Points s lit old new result =
    ((old.found ≡ true) × (new ≡ old) × (result ≡ None))
    ⊎ ((old.found ≡ false) × (old.unmet ≤ 1) × (new.found ≡ true) × (new.marks ≡ old.marks) × (new.level ≡ old.level) × (result ≡ None))
    ⊎ ((old.found ≡ false) × (1 < old.unmet) × (new.found ≡ false) × (new.unmet + 1 ≡ old.unmet) × (new.marks ≡ old.marks) × (new.level ≡ old.level) × (result ≡ reason_of lit s.entries))

-- of any literal: of level 0 all reasons are taken, of those between none
abbrev pub Chooses : State → ℕ → Way → Way → Option ℕ → Type 0
Chooses s lit old new result =
    ((level_of lit s.entries ≡ Some 0) × (new ≡ old))
    ⊎ ((is_level old.level (level_of lit s.entries) ≡ false) × (new ≡ old) × (result ≡ None))
    ⊎ ((is_level old.level (level_of lit s.entries) ≡ true) × Points s lit old new result)

-- the entry of that literal was met
abbrev pub PassesCounted : State → ℕ → Way → Way → Type 0
PassesCounted s lit old new =
    (n : ℕ) → n < length s.entries → get_or (lits_of s.entries) n 0 ≡ lit → 0 < s.level → length s.entries < 2 ^ 60 → IsCounted s (n + 1) old → IsCounted s n new
