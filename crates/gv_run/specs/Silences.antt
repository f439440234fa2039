-- A silence: a class that is asked about and not reported. The certificates have a refutation of it.
use Rattle.std.specs.Prelude.{◌≡◌, ℕ, List, None, Some, slice_get}
use Rattle.gv_expr.specs.Dep.{Dep}
use Rattle.gv_cert.specs.Claim.{IsAnswerTo, answer_bytes}
use Rattle.gv_cert.specs.Known.{KnownRecord}
use Rattle.gv_cert.specs.declared.claim.Claim.TheVariants.{Refuted}
use Rattle.gv_logic.specs.Backed.{BacksNone}
use Rattle.gv_logic.specs.Logs.{Step}
use Rattle.gv_checks.specs.Queries.{Query, class_of, gates_bytes, gates_of}
use Rattle.gv_checks.specs.RepoReports.{query_report}

-- a class is asked about, and has no report
pub record IsSilent (q : Query) : Type 0 where
  pub class : List Dep
  pub class_is : class_of q ≡ Some class
  pub none : query_report q ≡ None

-- a record has the bytes of the query's gates and an answer of none, which its log backs
pub record HasRefutation (records : List KnownRecord) (q : Query) : Type 0 where
  pub log : List Step
  pub number : ℕ
  pub there : slice_get records number ≡ Some (record { query = gates_bytes q; answer = answer_bytes (gates_of q) (Refuted log) })
  pub formed : IsAnswerTo (gates_of q) (Refuted log)
  pub backed : BacksNone (gates_of q) log

abbrev pub IsRefutedIfSilent : List KnownRecord → Query → Type 0
IsRefutedIfSilent records q = IsSilent q → HasRefutation records q
