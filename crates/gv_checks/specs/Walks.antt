-- A walk over queries: what is judged of them, and what is left.
use Rattle.std.specs.Prelude.{◌≡◌, ℕ, List, ◌++◌, length, OnOk, Result}
use Rattle.gv_base.specs.Counts.{Counts}
use Rattle.gv_cert.specs.Known.{KnownRecord}
use Rattle.gv_checks.specs.Certs.{CountsAtMost}
use Rattle.gv_checks.specs.Chosen.{chosen_from}
use Rattle.gv_checks.specs.Progress.{IsSomewhere, Judges}
use Rattle.gv_checks.specs.Queries.{Query}
use Rattle.gv_checks.specs.declared.fault.JudgeFault.{JudgeFault}
use Rattle.gv_checks.specs.declared.chosen.Asking.{Asking}
use Rattle.gv_checks.specs.declared.chosen.Chosen.{Chosen}
use Rattle.gv_checks.specs.declared.judging.Progress.{Progress}
use Rattle.gv_checks.specs.declared.walking.Going.{Going}

-- to judge the rest from here is to judge all from the start; and with no budget nothing was solved
pub record IsWalk (budget : ℕ) (given : List KnownRecord) (rest all : List Query) (start now : Progress) (before then_ : Counts) : Type 0 where
  pub somewhere : IsSomewhere budget given now then_
  pub goes : (end_ : Progress) (after_ : Counts) (r : Result (Unit {0}) JudgeFault) → Judges budget given rest now end_ then_ after_ r → Judges budget given all start end_ before after_ r
  pub unsolved : budget ≡ 0 → then_.solve ≡ before.solve

-- what is chosen of these and of whatever stands behind them is what is chosen of these, and then of that from another place on
abbrev pub Parts : Chosen → (these : List Query) → (place next : ℕ) → Type 0
Parts c these place next = (rest : List Query) → chosen_from c place (these ++ rest) ≡ chosen_from c place these ++ chosen_from c next rest

-- these are come to, and those of them that are chosen are judged
pub record Goes (a : Asking) (these : List Query) (old new : Going) (before now : Counts) (result : Result (Unit {0}) JudgeFault) : Type 0 where
  pub judges : Judges a.budget a.given.now (chosen_from a.chosen old.place these) old.progress new.progress before now result
  pub parts : OnOk result (Parts a.chosen these old.place new.place)
  pub unsolved : a.budget ≡ 0 → now.solve ≡ before.solve
  pub few : CountsAtMost (length (chosen_from a.chosen old.place these)) before now

-- to come to the rest from here is to come to all from the start
pub record IsOnWay (a : Asking) (rest all : List Query) (start now : Going) (before then_ : Counts) : Type 0 where
  pub somewhere : IsSomewhere a.budget a.given.now now.progress then_
  pub goes : (end_ : Progress) (after_ : Counts) (r : Result (Unit {0}) JudgeFault) → Judges a.budget a.given.now (chosen_from a.chosen now.place rest) now.progress end_ then_ after_ r
      → Judges a.budget a.given.now (chosen_from a.chosen start.place all) start.progress end_ before after_ r
  pub parts : (next : ℕ) → Parts a.chosen rest now.place next → Parts a.chosen all start.place next
  pub unsolved : a.budget ≡ 0 → then_.solve ≡ before.solve
  pub few : (after_ : Counts) → CountsAtMost (length (chosen_from a.chosen now.place rest)) then_ after_ → CountsAtMost (length (chosen_from a.chosen start.place all)) before after_
