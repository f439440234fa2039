-- What a scan of a part, and a merge, say of the files where nothing outside fails.
use Rattle.std.specs.Prelude.{◌≡◌, ◌⊎◌, ℕ, true, ◌≤◌, List, Option, Some, Result, Ok, Err}
use Rattle.std.specs.List.{AllByRecursion}
use Rattle.gv_base.specs.FileMap.{FileMap}
use Rattle.gv_base.specs.Order.{has_text}
use Rattle.gv_cert.specs.Known.{KnownRecord}
use Rattle.gv_reading.specs.declared.faults.LoadFault.{LoadFault}
use Rattle.gv_load.specs.declared.loading.Repo.{Repo}
use Rattle.gv_report.specs.declared.options.Options.{Options}
use Rattle.gv_words.specs.declared.command.Asked.{Asked}
use Rattle.gv_words.specs.declared.merging.Merging.{Merging}
use Rattle.gv_words.specs.declared.values.Share.{Share}
use Rattle.gv_checks.specs.Certs.{HasBacked}
use Rattle.gv_checks.specs.Limits.{IsWithin}
use Rattle.gv_checks.specs.Queries.{gates_of, queries}
use Rattle.gv_checks.specs.RepoReports.{scan_text}
use Rattle.gv_merge.specs.Parts.{part_queries}
use Rattle.gv_ending.specs.Fetching.{file_at}
use Rattle.gv_run.specs.Scan.{IsCovered, said_by, unloaded_status}
use Rattle.gv_run.specs.Scanning.{Parts, certs_file}
use Rattle.gv_ending.specs.World.{World}

-- Where no query of the part can be refused: each is within the limits and covered by the budget or a given record.
pub record FitsPart (share : Share) (options : Options) (given : List KnownRecord) (repo : Repo) : Type 0 where
  pub within : AllByRecursion IsWithin (part_queries share.part share.parts options repo)
  pub covered : AllByRecursion (IsCovered options.budget given) (part_queries share.part share.parts options repo)

-- the status of a scan of a part to which these records are given and in which nothing outside fails; or memory is wanted
abbrev pub PartSays : Share → Options → (given : List KnownRecord) → Result Repo LoadFault → ℕ → Type 0
PartSays share options given (Ok repo) status = FitsPart share options given repo → (status ≡ 0) ⊎ (status ≡ 5)
PartSays share options given (Err fault) status = (status ≡ unloaded_status fault) ⊎ (status ≡ 5)

-- Where no query lacks a record: each is within the limits, and a given record of it is backed.
pub record LacksNone (options : Options) (given : List KnownRecord) (repo : Repo) : Type 0 where
  pub within : AllByRecursion IsWithin (queries options repo)
  pub backed : AllByRecursion (λ q. HasBacked given (gates_of q)) (queries options repo)

-- the status of a merge to which these records are given and in which nothing outside fails; or memory is wanted
abbrev pub MergeSays : Options → (given : List KnownRecord) → Result Repo LoadFault → ℕ → Type 0
MergeSays options given (Ok repo) status =
    (LacksNone options given repo → (status ≡ said_by (scan_text options repo)) ⊎ (status ≡ 5))
    × (AllByRecursion IsWithin (queries options repo) → (status ≡ said_by (scan_text options repo)) ⊎ ((status ≡ 5) ⊎ (status ≡ 10)))
MergeSays options given (Err fault) status = (status ≡ unloaded_status fault) ⊎ (status ≡ 5)

-- A scan of this part that ended with 0, whatever its budget and whatever records it found, left its certificates in a file that the merge
-- names; it was of the files that the tree has now, with the same keywords, profiles and number of parts.
pub record IsLeftByPartScan (m : Merging) (told kept : Option FileMap) (part : ℕ) : Type 0 where
  pub asked : Asked
  pub old : World
  pub new : World
  pub scan : Parts asked (record { part = part; parts = m.parts }) old new 0
  pub files : FileMap
  pub scanned : old.files ≡ Some files
  pub told_are : told ≡ Some files
  pub keywords : m.options.keywords ≡ asked.options.keywords
  pub profiles : m.options.profiles ≡ asked.options.profiles
  pub held : FileMap
  pub held_are : kept ≡ Some held
  pub path : List ℕ
  pub named : has_text m.from path ≡ true
  pub certs : file_at held path ≡ certs_file scan.answered.certs

-- one of each part did
abbrev pub AreLeftByPartScans : Merging → (told kept : Option FileMap) → Type 0
AreLeftByPartScans m told kept = (part : ℕ) → 1 ≤ part → part ≤ m.parts → IsLeftByPartScan m told kept part
