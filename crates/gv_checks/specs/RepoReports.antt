-- The reports of a repository.
use Rattle.std.specs.Prelude.{ℕ, Bool, true, false, List, [], ◌∷◌, ◌++◌, Option, None, Some, option_map, filter, flat_map, filter_map, unwrap_or, codes}
use Rattle.gv_base.specs.Words.{joined}
use Rattle.gv_expr.specs.Dep.{Dep}
use Rattle.gv_expr.specs.DepGrammar.{item_text}
use Rattle.gv_expr.specs.Required.{reqs}
use Rattle.gv_expr.specs.RequiredGrammar.{req_text}
use Rattle.gv_entry.specs.Allowed.{assignment, first_failing, values_by}
use Rattle.gv_report.specs.Emitted.{reports_text}
use Rattle.gv_report.specs.Distinct.{ordered}
use Rattle.gv_report.specs.Selecting.{selected}
use Rattle.gv_report.specs.declared.keyword.Keyword.TheVariants as keywords
use Rattle.gv_report.specs.declared.options.Options.{Options}
use Rattle.gv_report.specs.declared.report.Report.{Report}
use Rattle.gv_plain.specs.Cases.{cases_of, members}
use Rattle.gv_checks.specs.Queries.{Query, case_queries_all, class_keyword, class_of, flags_of, least_of, preferred_of, required_of}
use Rattle.gv_plain.specs.PlainReports.{context_of, plain_reports, subject_of}
use Rattle.gv_load.specs.declared.loading.Repo.{Repo}

-- The flags with these values, each with `-` before it where it is off.
abbrev pub witness_words : List (List ℕ) → List Bool → List (List ℕ)
witness_words [] values = []
witness_words (f ∷ fs) [] = []
witness_words (f ∷ fs) (true ∷ vs) = f ∷ witness_words fs vs
witness_words (f ∷ fs) (false ∷ vs) = (codes "-" ++ f) ∷ witness_words fs vs

-- the values by the bits, which say that a flag hasn't its preferred value
abbrev pub witness_of : Query → List Bool → List ℕ
witness_of q bits = joined (witness_words (flags_of q) (values_by (preferred_of q) bits))

-- the first top item that doesn't hold under these bits
abbrev pub failing_text : Query → List Dep → List Bool → List ℕ
failing_text q class bits = unwrap_or (option_map item_text (first_failing q.case.parent class (assignment q.case.parent (flags_of q) bits))) []

-- a class that fails under these bits
abbrev pub nonsolvable : Query → List Dep → List Bool → Report
nonsolvable q class bits = record {
  subject = subject_of q.case.parent.pkg;
  keyword = class_keyword q.case.parent.profile.status;
  class = Some q.class;
  context = Some (context_of q.case.parent);
  witness = Some (witness_of q bits);
  detail = Some (failing_text q class bits);
}

-- REQUIRED_USE that no assignment meets
abbrev pub unsatisfiable : Query → Report
unsatisfiable q = record {
  subject = subject_of q.case.parent.pkg;
  keyword = keywords.UnsatisfiableRequiredUse;
  class = None;
  context = Some (context_of q.case.parent);
  witness = None;
  detail = Some (req_text (reqs (required_of q)));
}

-- where a class may fail, and where REQUIRED_USE may not hold
abbrev pub report_found : Query → Option (List Dep) → (found : Option (List Bool)) → Option Report
report_found q None None = Some (unsatisfiable q)
report_found q None (Some bits) = None
report_found q (Some class) None = None
report_found q (Some class) (Some bits) = Some (nonsolvable q class bits)

-- under the least assignment that is asked for
abbrev pub query_report : Query → Option Report
query_report q = report_found q (class_of q) (least_of q)

abbrev pub query_reports : Repo → List Report
query_reports repo = filter_map query_report (flat_map case_queries_all (flat_map (cases_of repo) (members repo)))

-- all of them
abbrev pub reports : Repo → List Report
reports repo = plain_reports repo ++ query_reports repo

-- those that the options select, in order, equal ones once; and their text
abbrev pub scan_reports : Options → Repo → List Report
scan_reports options repo = ordered (filter (selected options) (reports repo))

abbrev pub scan_text : Options → Repo → List ℕ
scan_text options repo = reports_text options.json (scan_reports options repo)
