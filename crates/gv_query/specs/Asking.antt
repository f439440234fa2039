-- What is answered of gates, and where the answer comes from.
use Rattle.std.specs.Prelude.{◌≡◌, ◌⊎◌, ℕ, ◌^◌, ◌<◌, Bool, true, false, List, [], length, if◌then◌else◌}
use Rattle.gv_base.specs.Counts.{Counts}
use Rattle.gv_base.specs.Steps.{after}
use Rattle.gv_base.specs.declared.steps.Kind.TheVariants.{Solve}
use Rattle.gv_logic.specs.Circuits.{Circuit}
use Rattle.gv_logic.specs.Kept.{AreKept}
use Rattle.gv_cert.specs.Claim.{log_of}
use Rattle.gv_cert.specs.Backing.{Backs, NoneBacked, IsFirstBacked}
use Rattle.gv_cert.specs.Known.{KnownRecord}
use Rattle.gv_cert.specs.declared.claim.Claim.{Claim}
use Rattle.gv_cert.specs.declared.claim.Claim.TheVariants as claims
use Rattle.gv_solver.specs.Answer.{IsShort}
use Rattle.gv_query.specs.Truth.{IsSo}
use Rattle.gv_query.specs.declared.outcome.Outcome.{Outcome}
use Rattle.gv_query.specs.declared.outcome.Outcome.TheVariants.{Refuted, Found, Spent}

-- a reused claim is that of the first record that is backed; a new one comes where none is, and its log is short
abbrev pub Comes : Bool → Circuit → ℕ → List KnownRecord → Claim → Type 0
Comes true g budget known claim = IsFirstBacked g known claim
Comes false g budget known claim = NoneBacked g known × IsShort g.inputs budget (log_of claim)

-- a claim that is so, its log backs it, and it comes from the records or is new
pub record IsAnswered (g : Circuit) (budget : ℕ) (known : List KnownRecord) (claim : Claim) (reused : Bool) : Type 0 where
  pub so : IsSo g claim
  pub backed : Backs g claim
  pub comes : Comes reused g budget known claim

-- no record is backed, and there are as many kept sets as the budget allows, of fewer than all sets of inputs
pub record IsSpent (g : Circuit) (budget : ℕ) (known : List KnownRecord) (sets : List (List ℕ)) : Type 0 where
  pub none : NoneBacked g known
  pub kept : AreKept g [] sets
  pub count : length sets ≡ budget
  pub wide : budget < 2 ^ g.inputs

abbrev pub Asked : Circuit → ℕ → List KnownRecord → Outcome → Type 0
Asked g budget known (Refuted log reused) = IsAnswered g budget known (claims.Refuted log) reused
Asked g budget known (Found bits log reused) = IsAnswered g budget known (claims.Found bits log) reused
Asked g budget known (Spent sets) = IsSpent g budget known sets

abbrev pub is_reused : Outcome → Bool
is_reused (Refuted log reused) = reused
is_reused (Found bits log reused) = reused
is_reused (Spent sets) = false

-- the counts after an outcome: one more Solve, but where a record was reused
abbrev pub counted : Outcome → Counts → Counts
counted outcome counts = if is_reused outcome then counts else after Solve counts

-- the counts where there was no memory: at most one more Solve
abbrev pub MayCount : Counts → Counts → Type 0
MayCount old new = (new ≡ old) ⊎ (new ≡ after Solve old)
