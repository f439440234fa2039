-- Records among which stand those that the judging of each part left.
use Rattle.std.specs.Prelude.{◌≡◌, ℕ, ◌≤◌, List, ◌++◌, Result, Ok, Err}
use Rattle.gv_base.specs.Counts.{Counts}
use Rattle.gv_cert.specs.Known.{KnownRecord}
use Rattle.gv_load.specs.declared.loading.Repo.{Repo}
use Rattle.gv_report.specs.declared.options.Options.{Options}
use Rattle.gv_merge.specs.Parts.{IsPart}
use Rattle.gv_merge.specs.declared.merging.MergeFault.{MergeFault}
use Rattle.gv_merge.specs.declared.merging.MergeFault.TheVariants.{NotBacked, Limit, NoMemory}
use Rattle.gv_merge.specs.declared.merging.Merged.{Merged}
use Rattle.gv_merge.specs.declared.parts.Part.{Part}

-- a judging of this part of the repository, with these keywords and profiles, whatever its budget and the records that it was given, left
-- records that stand among the given ones in one piece
pub record IsLeftByPart (part parts : ℕ) (o : Options) (repo : Repo) (given : List KnownRecord) : Type 0 where
  pub options : Options
  pub keywords : o.keywords ≡ options.keywords
  pub profiles : o.profiles ≡ options.profiles
  pub known : List KnownRecord
  pub start : Counts
  pub now : Counts
  pub answer : Part
  pub is : IsPart part parts options known repo start now answer
  pub before : List KnownRecord
  pub behind : List KnownRecord
  pub among : given ≡ before ++ (answer.certs ++ behind)

-- one of each part did
abbrev pub AreLeftByParts : (parts : ℕ) → Options → Repo → (given : List KnownRecord) → Type 0
AreLeftByParts parts o repo given = (part : ℕ) → 1 ≤ part → part ≤ parts → IsLeftByPart part parts o repo given

-- no query lacks a record or is past a limit
abbrev pub MayMerge : Result Merged MergeFault → Type 0
MayMerge (Ok m) = Unit {0}
MayMerge (Err (NotBacked query part)) = ⊥
MayMerge (Err (Limit place number)) = ⊥
MayMerge (Err NoMemory) = Unit {0}
