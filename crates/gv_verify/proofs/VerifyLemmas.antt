-- From what the records say to the answer about a report.
use Rattle.std.proofs.Common.{◌≡◌, ℕ, Bool, true, false, if◌then◌else◌, List, [], ◌∷◌, filter, refl, sym, ap, ◌∙◌}
use Rattle.std.specs.Prelude.{Ok, Err}
use Rattle.gv_cert.specs.Known.{KnownRecord}
use Rattle.gv_checks.specs.Queries.{queries}
use Rattle.gv_checks.specs.Recalled.{IsRecalled, NotRecalls}
use Rattle.gv_checks.specs.RepoReports.{reports, scan_text}
use Rattle.gv_checks.specs.declared.recalled.RecallFault.{RecallFault}
use Rattle.gv_checks.specs.declared.recalled.RecallFault.TheVariants as recalling
use Rattle.gv_checks.specs.declared.recalled.Recalled.{Recalled}
use Rattle.gv_load.specs.declared.loading.Repo.{Repo}
use Rattle.gv_report.specs.Emitted.{emitted, reports_text}
use Rattle.gv_report.specs.Distinct.{ordered}
use Rattle.gv_report.specs.Selecting.{selected}
use Rattle.gv_report.specs.declared.options.Options.{Options}
use Rattle.gv_report.specs.declared.report.Report.{Report}
use Rattle.gv_verify.specs.Differing.{DifferAt}
use Rattle.gv_verify.specs.Verifying.{Hands, Verifies}
use Rattle.gv_verify.specs.declared.verifying.VerifyFault.{VerifyFault}
use Rattle.gv_verify.specs.declared.verifying.VerifyFault.TheVariants.{NotBacked, NoSuchText, Limit, NoMemory}

abbrev pub PickedLaw : Type 0
PickedLaw = (p : Report → Bool) (rs : List Report) → filter p (ordered rs) ≡ ordered (filter p rs)

-- what is picked out is picked out again
twice : {A : Type 0} (p : A → Bool) (xs : List A) → filter p (filter p xs) ≡ filter p xs
twice p [] = refl
twice p (x ∷ xs) = by (p x) refl (twice p xs)
  where
    by : (b : Bool) → p x ≡ b → filter p (filter p xs) ≡ filter p xs → filter p (if b then x ∷ filter p xs else filter p xs) ≡ (if b then x ∷ filter p xs else filter p xs)
    by true e rest = rw e (ap (λ ys. x ∷ ys) rest)
    by false e rest = rest

module _ (law : PickedLaw) (options : Options) (given : List KnownRecord) (repo : Repo) (r : Recalled) (is : IsRecalled options given repo r) (text report : List ℕ) (made : text ≡ emitted options r.reports) where
  text_is : text ≡ scan_text options repo
  text_is =
      made ∙ (ap (emitted options) is.reports_are
      ∙ ap (reports_text options.json) (law (selected options) (filter (selected options) (reports repo)) ∙ ap ordered (twice (selected options) (reports repo))))

  pub accepted : text ≡ report → Verifies options given repo report (Ok r.queries)
  accepted same = record { queries_are = is.queries_are; within = is.within; backed = is.backed; text_is = sym same ∙ text_is }

  pub other_text : (offset : ℕ) → DifferAt text report offset → Verifies options given repo report (Err (NoSuchText offset))
  other_text offset d = record {
    within = is.within;
    backed = is.backed;
    differs = record { front = d.front; one_rest = d.one_rest; two_rest = d.two_rest; one_is = sym text_is ∙ d.one_is; two_is = d.two_is; place = d.place; apart = d.apart };
  }

pub handed : (options : Options) (given : List KnownRecord) (repo : Repo) (report : List ℕ) (fault : RecallFault) (out : VerifyFault) → NotRecalls given (queries options repo) fault → Hands fault out
    → Verifies options given repo report (Err out)
handed options given repo report (recalling.NotBacked query) out is e = rw e is
handed options given repo report (recalling.Limit place number) out is e = rw e is
handed options given repo report recalling.NoMemory out is e = rw e tt
