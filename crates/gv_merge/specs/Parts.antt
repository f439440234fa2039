-- Parts of a scan: query number q, from 1, is of part ((q - 1) modulo N) + 1 of N. What judging one answers.
use Rattle.std.specs.Prelude.{◌≡◌, ◌↔◌, ℕ, ◌+◌, ◌-◌, ◌%◌, ◌≤◌, true, List, length, map, Result, Ok, Err}
use Rattle.std.specs.List.{AllByRecursion}
use Rattle.gv_base.specs.Counts.{Counts}
use Rattle.gv_cert.specs.Known.{KnownRecord}
use Rattle.gv_load.specs.declared.loading.Repo.{Repo}
use Rattle.gv_logic.specs.Circuits.{IsCircuit}
use Rattle.gv_report.specs.declared.options.Options.{Options}
use Rattle.gv_checks.specs.Certs.{AreCerts, Cert, cert_record, counts_after}
use Rattle.gv_checks.specs.Chosen.{chosen, is_in_part}
use Rattle.gv_checks.specs.Limits.{IsWithin, RefusesFirst}
use Rattle.gv_checks.specs.Queries.{Query, gates_of, queries}
use Rattle.gv_checks.specs.declared.chosen.Chosen.TheVariants as choices
use Rattle.gv_checks.specs.declared.fault.JudgeFault.{JudgeFault}
use Rattle.gv_merge.specs.declared.parts.Part.{Part}

-- of how many parts the query of a number is which
abbrev pub part_of : (parts number : ℕ) → ℕ
part_of parts number = (number - 1) % parts + 1

-- those of these queries that are of a part, in order
abbrev pub part_of_all : (part parts : ℕ) → List Query → List Query
part_of_all part parts qs = chosen (choices.Part part parts) qs

-- the queries of a part
abbrev pub part_queries : (part parts : ℕ) → Options → Repo → List Query
part_queries part parts options repo = part_of_all part parts (queries options repo)

-- One record for each distinct query of the part, in order of first use, with a backed answer, which is that of the first given record that
-- is backed where there is one; each of its queries within the limits, and its gates a circuit; and what was counted: at most one
-- lowering for each of its queries, and one solving for each distinct one without such a record.
pub record IsPart (part parts : ℕ) (options : Options) (given : List KnownRecord) (repo : Repo) (before now : Counts) (p : Part) : Type 0 where
  pub certs : List Cert
  pub are : AreCerts options.budget given (map gates_of (part_queries part parts options repo)) certs
  pub records_are : p.certs ≡ map cert_record certs
  pub queries_are : p.queries ≡ length (part_queries part parts options repo)
  pub within : AllByRecursion IsWithin (part_queries part parts options repo)
  pub formed : AllByRecursion (λ q. IsCircuit (gates_of q)) (part_queries part parts options repo)
  pub lowered : ℕ
  pub few : lowered ≤ length (part_queries part parts options repo)
  pub counts_are : now ≡ counts_after before lowered certs

-- that, or the first of the part's queries that is refused
abbrev pub JudgesPart : (part parts : ℕ) → Options → (given : List KnownRecord) → Repo → (before now : Counts) → Result Part JudgeFault → Type 0
JudgesPart part parts options given repo before now (Ok p) = IsPart part parts options given repo before now p
JudgesPart part parts options given repo before now (Err fault) = RefusesFirst options.budget given (part_queries part parts options repo) fault

-- ---- how parts make the whole

-- the part of a number is one from 1 to so many
abbrev pub IsOneOfParts : (parts number : ℕ) → Type 0
IsOneOfParts parts number = (1 ≤ part_of parts number) × (part_of parts number ≤ parts)

-- the query that stands behind so many others is chosen in its own part, and in no other
abbrev pub IsInItsPart : (parts place : ℕ) → Type 0
IsInItsPart parts place = (part : ℕ) → (is_in_part part parts place ≡ true) ↔ (part ≡ part_of parts (place + 1))
