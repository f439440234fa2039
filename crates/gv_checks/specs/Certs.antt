-- The certificates of a scan: for each distinct query, by the bytes of its gates, a record with a backed answer, in the order
-- in which queries are first used.
use Rattle.std.specs.Prelude.{◌≡◌, ℕ, ◌+◌, ◌≤◌, Bool, not, if◌then◌else◌, List, [], ◌∷◌, ◌++◌, length, map, filter, fold, Some, slice_get}
use Rattle.std.specs.List.{AllByRecursion}
use Rattle.gv_base.specs.Counts.{Counts}
use Rattle.gv_base.specs.Order.{has_text}
use Rattle.gv_logic.specs.Bytes.{circuit_bytes}
use Rattle.gv_logic.specs.Circuits.{Circuit}
use Rattle.gv_cert.specs.Claim.{IsAnswerTo, answer_bytes}
use Rattle.gv_cert.specs.Backing.{Backs, IsBackedAt}
use Rattle.gv_cert.specs.Known.{KnownRecord}
use Rattle.gv_cert.specs.declared.claim.Claim.{Claim}
use Rattle.gv_query.specs.Asking.{IsAnswered}
use Rattle.gv_query.specs.Truth.{IsSo}

abbrev pub has_gates : List Circuit → Circuit → Bool
has_gates gs g = has_text (map circuit_bytes gs) (circuit_bytes g)

-- the distinct ones, each where it is first used
abbrev pub with_use : List Circuit → Circuit → List Circuit
with_use gs g = if has_gates gs g then gs else gs ++ g ∷ []

abbrev pub first_uses : List Circuit → List Circuit
first_uses gs = fold with_use [] gs

-- a record of the gates is backed
abbrev pub HasBacked : (given : List KnownRecord) → Circuit → Type 0
HasBacked given g = (n : ℕ) × IsBackedAt g given n

-- gates with a claim about them, which is that of a record that was given or is new
pub record Cert : Type 0 where
  pub gates : Circuit
  pub claim : Claim
  pub reused : Bool

-- the claim is so and backed; it is that of the first backed record of the gates among the given ones, or none is backed
pub record IsCert (budget : ℕ) (given : List KnownRecord) (c : Cert) : Type 0 where
  pub formed : IsAnswerTo c.gates c.claim
  pub answered : IsAnswered c.gates budget given c.claim c.reused

abbrev pub cert_record : Cert → KnownRecord
cert_record c = record { query = circuit_bytes c.gates; answer = answer_bytes c.gates c.claim }

-- how many are new
abbrev pub new_count : List Cert → ℕ
new_count certs = length (filter (λ c. not c.reused) certs)

-- the certificates of queries with these gates, in order
pub record AreCerts (budget : ℕ) (given : List KnownRecord) (gates : List Circuit) (certs : List Cert) : Type 0 where
  pub gates_are : map (λ c. c.gates) certs ≡ first_uses gates
  pub backed : AllByRecursion (IsCert budget given) certs

-- so many are lowered, and each one is solved whose answer isn't among the given records
abbrev pub counts_after : Counts → (lowered : ℕ) → List Cert → Counts
counts_after c lowered certs = record { solve = c.solve + new_count certs; lower = c.lower + lowered }

-- at most so many queries were lowered, and at most so many solved
pub record CountsAtMost (most : ℕ) (before now : Counts) : Type 0 where
  pub lowered : now.lower ≤ before.lower + most
  pub solved : now.solve ≤ before.solve + most

-- a record of the gates stands among these: its answer is so, has an answer's form, and is backed
pub record HasRecord (records : List KnownRecord) (g : Circuit) : Type 0 where
  pub number : ℕ
  pub claim : Claim
  pub there : slice_get records number ≡ Some (record { query = circuit_bytes g; answer = answer_bytes g claim })
  pub so : IsSo g claim
  pub formed : IsAnswerTo g claim
  pub backed : Backs g claim
