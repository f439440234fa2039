-- Words of private contracts alone, no rule: what an answer in bytes is found to claim, and what is handed out.
use Rattle.std.specs.Prelude.{◌≡◌, ℕ, Bool, List, Option, None, Some}
use Rattle.gv_logic.specs.Circuits.{Circuit}
use Rattle.gv_cert.specs.Claim.{answer_bytes, IsAnswerTo}
use Rattle.gv_cert.specs.Backing.{Backs, IsBacked}
use Rattle.gv_cert.specs.declared.claim.Claim.{Claim}
use Rattle.gv_cert.specs.declared.claim.Claim.TheVariants as claims
use Rattle.gv_query.specs.declared.outcome.Outcome.{Outcome}
use Rattle.gv_query.specs.declared.outcome.Outcome.TheVariants.{Refuted, Found}

-- what an answer in bytes is found to claim: something that is backed, or it isn't
abbrev pub ReadsBacked : Circuit → List ℕ → Option Claim → Type 0
ReadsBacked g bytes None = IsBacked g bytes → ⊥
ReadsBacked g bytes (Some claim) = IsAnswerTo g claim × (answer_bytes g claim ≡ bytes) × Backs g claim

-- the outcome that hands a claim out
abbrev pub outcome_of : Bool → Claim → Outcome
outcome_of reused (claims.Refuted log) = Refuted log reused
outcome_of reused (claims.Found bits log) = Found bits log reused
