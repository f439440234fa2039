-- Records of the first version as records of the second.
-- A file of the first version is turned record by record as it is read. What a record becomes is said by what it
-- claims, and `migration_law` says that the first backed record of gates has the same claim before and behind.
use Rattle.std.specs.Prelude.{◌≡◌, ◌⊎◌, List, [], ◌∷◌}
use Rattle.gv_logic.specs.Bytes.{circuit_bytes}
use Rattle.gv_logic.specs.Circuits.{Circuit, IsCircuit}
use Rattle.gv_logic.specs.Encoding.{clause_count}
use Rattle.gv_cert.specs.Claim.{claim_form, IsAnswerTo, answer_bytes}
use Rattle.gv_cert.specs.Known.{KnownRecord}
use Rattle.gv_cert.specs.declared.claim.Claim.{Claim}
use Rattle.gv_cert.specs.declared.version.FileVersion.TheVariants.{First}

-- the same query, which is gates, with the same claim, which has the first version's form in the one answer, with each hint
-- naming a clause or an earlier step, and the second version's in the other
pub record IsTurned (old new : KnownRecord) : Type 0 where
  pub gates : Circuit
  pub circuit : IsCircuit gates
  pub query : circuit_bytes gates ≡ old.query
  pub claim : Claim
  pub formed : IsAnswerTo gates claim
  pub written : claim_form First (clause_count gates) claim ≡ old.answer
  pub turned : new ≡ record { query = old.query; answer = answer_bytes gates claim }

-- it can't be turned
abbrev pub IsLeftOut : KnownRecord → Type 0
IsLeftOut old = (new : KnownRecord) → IsTurned old new → ⊥

-- in order, each that can be turned, and the others left out
abbrev pub AreTurned : (old new : List KnownRecord) → Type 0
AreTurned [] new = new ≡ []
AreTurned (r ∷ rs) new =
    (IsLeftOut r × AreTurned rs new)
    ⊎ ((it : KnownRecord) × (rest : List KnownRecord) × IsTurned r it × (new ≡ it ∷ rest) × AreTurned rs rest)
