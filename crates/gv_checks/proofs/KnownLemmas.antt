-- What records know of a query, as it is found.
use Rattle.std.proofs.Common.{◌≡◌, true, List, sym, subst, inr, Option, Some}
use Rattle.std.specs.Prelude.{option_map, Result, Ok, Err}
use Rattle.gv_base.specs.Counts.{Counts}
use Rattle.gv_base.specs.Steps.{after}
use Rattle.gv_base.specs.declared.steps.Kind.TheVariants.{Lower}
use Rattle.gv_cert.specs.Claim.{IsAnswerTo, answer_bytes}
use Rattle.gv_cert.specs.Backing.{IsFirstBacked}
use Rattle.gv_cert.specs.Known.{KnownRecord}
use Rattle.gv_cert.specs.declared.claim.Claim.{Claim}
use Rattle.gv_logic.specs.Circuits.{Circuit}
use Rattle.gv_lower.specs.declared.query.LowerFault.{LowerFault}
use Rattle.gv_lower.specs.declared.query.LowerFault.TheVariants.{Flags, Weight, NoMemory}
use Rattle.gv_query.specs.Asking.{IsAnswered}
use Rattle.gv_query.specs.Truth.{IsSo}
use Rattle.gv_report.specs.declared.options.Options.{Options}
use Rattle.gv_checks.specs.Answered.{CountsKnown, Knows}
use Rattle.gv_checks.specs.Limits.{IsWithin}
use Rattle.gv_checks.specs.Named.{IsNamed, KnowsNamed}
use Rattle.gv_checks.specs.Queries.{Query, gates_bytes, gates_of, least_of}
use Rattle.gv_checks.specs.RepoReports.{query_report, witness_of}
use Rattle.gv_checks.specs.declared.names.QueryName.{QueryName}
use Rattle.gv_checks.specs.declared.one.Found1.{Found1}
use Rattle.gv_load.specs.declared.loading.Repo.{Repo}

pub knows_found : (given : List KnownRecord) (q : Query) (g : Circuit) (claim : Claim) (f : Found1) → IsWithin q → g ≡ gates_of q → IsFirstBacked g given claim → IsSo g claim
    → f.query ≡ gates_bytes q → IsAnswerTo (gates_of q) claim → f.answer ≡ answer_bytes (gates_of q) claim → f.witness ≡ option_map (witness_of q) (least_of q) → f.report ≡ query_report q → f.reused ≡ true
    → Knows given q (Ok (Some f))
knows_found given q g claim f within gates first so query formed answer witness report reused = (
  λ budget. record {
    within = within;
    query_is = query;
    claim = claim;
    formed = formed;
    answer_is = answer;
    answered = subst (λ h. IsAnswered (gates_of q) budget given claim h) (sym reused)
        (subst (λ h. IsAnswered h budget given claim true) gates (record { so = so; backed = first.backs; comes = first }));
    witness_is = witness;
    report_is = report;
  },
  reused,
)

pub knows_named : (o : Options) (given : List KnownRecord) (repo : Repo) (name : QueryName) (q : Query) (r : Result (Option Found1) LowerFault) → IsNamed o repo name q → Knows given q r → KnowsNamed o given repo name r
knows_named o given repo name q (Ok known) named k = record { query = q; named = named; knows = k }
knows_named o given repo name q (Err (Flags count)) named k = record { query = q; named = named; knows = k }
knows_named o given repo name q (Err (Weight count)) named k = record { query = q; named = named; knows = k }
knows_named o given repo name q (Err NoMemory) named k = tt

pub counts_known : (before now : Counts) (r : Result (Option Found1) LowerFault) → now ≡ after Lower before → CountsKnown r before now
counts_known before now (Ok known) e = e
counts_known before now (Err (Flags count)) e = e
counts_known before now (Err (Weight count)) e = e
counts_known before now (Err NoMemory) e = inr e
