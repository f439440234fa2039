-- What the steps of a propagation do: words of private functions.
use Rattle.std.specs.Prelude.{◌≡◌, ℕ, ◌+◌, ◌<◌, Bool, true, false, if◌then◌else◌, nat_eq, min, Option, Some, None, List, [], ◌∷◌, ◌++◌, length, slice_get, slice_index_or}
use Rattle.std.specs.List.{AllByRecursion}
use Rattle.gv_logic.specs.Literals.{opposite}
use Rattle.gv_logic.specs.Formulas.{Formula}
use Rattle.gv_logic.specs.Partial.{is_true, Has, Quiet}
use Rattle.gv_trail.specs.declared.look.Picked.{Picked}
use Rattle.gv_trail.specs.declared.propagation.Sweep.{Sweep}
use Rattle.gv_trail.specs.declared.propagation.Sweep.TheVariants.{Nothing, Falsified, Assigned}
use Rattle.gv_trail.specs.Links.{Links, Watched, list_of, added, idle, requeued}
use Rattle.gv_trail.specs.Look.{open_to}
use Rattle.gv_trail.specs.Entries.{Entry, State, assignment, lits_of}
use Rattle.gv_trail.specs.Derived.{IsTrail, front}
use Rattle.gv_trail.specs.Propagation.{Propagates, IsFalseAt}
use Rattle.gv_trail.specs.Watches.{lit_at}

abbrev pub rewatched : State → Watched → State
rewatched s w = record { variables = s.variables; entries = s.entries; level = s.level; watched = w }

abbrev pub relinked : State → Links → State
relinked s links = rewatched s (record { links = links; apart = s.watched.apart; seen = s.watched.seen; sure = s.watched.sure; lasting = s.watched.lasting })

-- how many entries stand before the first that makes one of the two literals false
abbrev pub open_both : State → Picked → ℕ
open_both s p = min (open_to p.first (lits_of s.entries)) (open_to p.second (lits_of s.entries))

-- two more watches; what makes one of their literals false has to be followed again
abbrev pub watching : State → Picked → State
watching s p = rewatched s (record { links = added (added s.watched.links p.first) p.second; apart = s.watched.apart; seen = min s.watched.seen (open_both s p); sure = min s.watched.sure (open_both s p); lasting = s.watched.lasting })

-- one more clause without watches
abbrev pub holding_apart : State → ℕ → State
holding_apart s number = rewatched s (record { links = idle (idle s.watched.links); apart = s.watched.apart ++ number ∷ []; seen = s.watched.seen; sure = s.watched.sure; lasting = s.watched.lasting })

abbrev pub entry_at : List Entry → ℕ → Entry
entry_at es k = slice_index_or es k (record { lit = 0; reason = None; level = 0 })

abbrev pub sure_after : State → ℕ
sure_after s =
    if nat_eq s.watched.sure s.watched.seen then (if nat_eq (entry_at s.entries s.watched.seen).level s.level then s.watched.sure + 1 else s.watched.sure)
    else s.watched.sure

-- the next entry was followed
abbrev pub advanced : State → State
advanced s = rewatched s (record { links = s.watched.links; apart = s.watched.apart; seen = s.watched.seen + 1; sure = sure_after s; lasting = s.watched.lasting })

-- one more of the clauses that are held apart is passed over from now on
abbrev pub passing : State → State
passing s = rewatched s (record { links = s.watched.links; apart = s.watched.apart; seen = s.watched.seen; sure = s.watched.sure; lasting = s.watched.lasting + 1 })

-- some more are
pub record Passes (f : Formula) (old new : State) : Type 0 where
  pub variables : new.variables ≡ old.variables
  pub entries : new.entries ≡ old.entries
  pub level : new.level ≡ old.level
  pub seen : new.watched.seen ≡ old.watched.seen
  pub over : IsTrail f new

-- one more clause takes part
pub record Holds (f : Formula) (number : ℕ) (old new : State) : Type 0 where
  pub variables : new.variables ≡ old.variables
  pub entries : new.entries ≡ old.entries
  pub level : new.level ≡ old.level
  pub over : IsTrail (front (number + 1) f) new

-- the watches in the list of the literal were looked at: the others of their clauses are true
abbrev pub AreDone : State → ℕ → Type 0
AreDone s lit = (n : ℕ) → Has n (list_of s.watched.links lit) → is_true (assignment s) (lit_at s.watched.links (opposite n)) ≡ true

-- what looks at clauses keep
pub record Keeps (f : Formula) (old new : State) : Type 0 where
  pub adds : Propagates f.clauses old new
  pub over : IsTrail f new
  pub seen : new.watched.seen ≡ old.watched.seen
  pub done : (lit : ℕ) → is_true (assignment old) (opposite lit) ≡ true → AreDone old lit → AreDone new lit

abbrev pub Waits : State → ℕ
Waits s = s.watched.links.waiting.count

abbrev pub Looks : Formula → State → State → Option ℕ → Type 0
Looks f old new None = Keeps f old new × (Waits new < Waits old)
Looks f old new (Some k) = Keeps f old new × IsFalseAt f.clauses (assignment new) k

abbrev pub Drains : Formula → State → State → Option ℕ → Type 0
Drains f old new None = Keeps f old new × (Waits new ≡ 0)
Drains f old new (Some k) = Keeps f old new × IsFalseAt f.clauses (assignment new) k

-- the first that waits stays on a literal, and then another becomes true, unless it is false
abbrev pub forced : State → ℕ → ℕ → ℕ → State
forced s lit other number = record {
  variables = s.variables;
  entries = s.entries ++ (record { lit = other; reason = Some number; level = s.level }) ∷ [];
  level = s.level;
  watched = record { links = requeued s.watched.links lit; apart = s.watched.apart; seen = s.watched.seen; sure = s.watched.sure; lasting = s.watched.lasting };
}

abbrev pub Forces : ℕ → ℕ → ℕ → State → State → Option ℕ → Type 0
Forces lit other number old new None = (is_true (assignment old) (opposite other) ≡ false) × (new ≡ forced old lit other number)
Forces lit other number old new (Some k) = (is_true (assignment old) (opposite other) ≡ true) × (new ≡ old) × (k ≡ number)

pub record Goes (f : Formula) (old new : State) : Type 0 where
  pub adds : Propagates f.clauses old new
  pub over : IsTrail f new

abbrev pub Follows : Formula → State → State → Option ℕ → Type 0
Follows f old new None = Goes f old new × (old.watched.seen < new.watched.seen)
Follows f old new (Some k) = Goes f old new × IsFalseAt f.clauses (assignment new) k

-- the clause of that number, if there is one, is neither false nor unit
abbrev pub QuietAt : List (List ℕ) → List Bool → ℕ → Type 0
QuietAt cs on k = (c : List ℕ) → slice_get cs k ≡ Some c → Quiet on c

-- what a look at one clause does
abbrev pub Settles : List (List ℕ) → ℕ → State → State → Sweep → Type 0
Settles cs number old new Nothing = (new ≡ old) × QuietAt cs (assignment new) number
Settles cs number old new (Falsified k) = (new ≡ old) × IsFalseAt cs (assignment new) k
Settles cs number old new Assigned = length old.entries < length new.entries

-- what a pass over the clauses that are held apart does
abbrev pub Sweeps : List (List ℕ) → State → State → Sweep → Type 0
Sweeps cs old new Nothing = (new ≡ old) × AllByRecursion (QuietAt cs (assignment new)) new.watched.apart
Sweeps cs old new (Falsified k) = IsFalseAt cs (assignment new) k
Sweeps cs old new Assigned = length old.entries < length new.entries
