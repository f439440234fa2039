-- From what the records say to the answer of a merge.
use Rattle.std.proofs.Common.{◌≡◌, ℕ, List, refl, ◌∙◌, arith}
use Rattle.std.specs.Prelude.{Err}
use Rattle.gv_cert.specs.Known.{KnownRecord}
use Rattle.gv_load.specs.declared.loading.Repo.{Repo}
use Rattle.gv_report.specs.declared.options.Options.{Options}
use Rattle.gv_checks.specs.Queries.{queries}
use Rattle.gv_checks.specs.Recalled.{IsRecalled, NotRecalls}
use Rattle.gv_checks.specs.declared.recalled.RecallFault.{RecallFault}
use Rattle.gv_checks.specs.declared.recalled.RecallFault.TheVariants as recalling
use Rattle.gv_checks.specs.declared.recalled.Recalled.{Recalled}
use Rattle.gv_merge.specs.Merging.{Hands, IsMerged, IsNumbered, Merges}
use Rattle.gv_merge.specs.declared.merging.MergeFault.{MergeFault}
use Rattle.gv_merge.specs.declared.merging.Merged.{Merged}

module _ (options : Options) (given : List KnownRecord) (repo : Repo) where
  pub is_merged : (r : Recalled) → IsRecalled options given repo r → (m : Merged) → m.reports ≡ r.reports → m.certs ≡ r.certs → IsMerged options given repo m
  is_merged r is m reports certs = record {
    reports_are = reports ∙ is.reports_are;
    certs = is.certs;
    are = is.are;
    reused = is.reused;
    records_are = certs ∙ is.records_are;
    within = is.within;
    formed = is.formed;
  }

  pub is_numbered : (fault : RecallFault) → NotRecalls given (queries options repo) fault → IsNumbered fault
  is_numbered (recalling.NotBacked query) is = omega (arith, is.cause.0)
  is_numbered other is = tt

  pub handed : (parts : ℕ) (fault : RecallFault) (out : MergeFault) → NotRecalls given (queries options repo) fault → Hands parts fault out → Merges parts options given repo (Err out)
  handed parts (recalling.NotBacked query) out is e = rw e (is, refl)
  handed parts (recalling.Limit place number) out is e = rw e is
  handed parts recalling.NoMemory out is e = rw e tt
