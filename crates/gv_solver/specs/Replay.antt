-- The hints that a trail gives, as the code finds them: words of private functions, on which no public clause rests.
use Rattle.std.specs.Prelude.{ℕ, Bool, true, if◌then◌else◌, Option, Some, None, List, [], ◌∷◌, slice_set}
use Rattle.gv_logic.specs.Literals.{opposite}
use Rattle.gv_logic.specs.Partial.{is_true}
use Rattle.gv_trail.specs.Entries.{Entry}

abbrev pub replay_at : List Bool → ℕ → Option ℕ → List ℕ → List ℕ → List ℕ
replay_at on lit None skip more = skip
replay_at on lit (Some k) skip more =
    if is_true on (opposite lit) then k ∷ [] else if is_true on lit then skip else k ∷ more

-- The reasons of the entries in order, up to the first whose literal is false already. A literal
-- that is true already needs none. `last` is the clause that is false after all entries.
abbrev pub replay : List Bool → List Entry → ℕ → List ℕ
replay on [] last = last ∷ []
replay on (e ∷ es) last = replay_at on e.lit e.reason (replay on es last) (replay (slice_set on e.lit true) es last)

-- the same of literals whose reasons are looked up
abbrev pub replay_by : (ℕ → Option ℕ) → List Bool → List ℕ → ℕ → List ℕ
replay_by reason on [] last = last ∷ []
replay_by reason on (l ∷ ls) last = replay_at on l (reason l) (replay_by reason on ls last) (replay_by reason (slice_set on l true) ls last)
