-- Reports in order, equal ones once (a format of this project).
use Rattle.std.specs.Prelude.{◌≡◌, Bool, false, not, List, [], ◌∷◌, ⊤}
use Rattle.std.specs.List.{filter, list_any}
use Rattle.std.specs.Ordering.{eq_by_cmp, is_lt}
use Rattle.gv_report.specs.declared.report.Report.{Report}
use Rattle.gv_report.specs.Order.{report_cmp, whole_cmp}
use Rattle.gv_report.specs.Sorting.{in_order, AreAscending, TiesStay}

-- the order of reports tells that r comes first
abbrev pub is_before : Report → Report → Bool
is_before r s = is_lt (report_cmp r s)

-- whether they are equal, which is to be alike in all parts
abbrev pub is_same : Report → Report → Bool
is_same = eq_by_cmp whole_cmp

abbrev pub has_report : List Report → Report → Bool
has_report reports report = list_any (is_same report) reports

-- without those that an earlier one equals
abbrev pub firsts : List Report → List Report
firsts [] = []
firsts (r ∷ rs) = r ∷ filter (λ s. not (is_same r s)) (firsts rs)

abbrev pub ordered : List Report → List Report
ordered reports = in_order is_before (firsts reports)

-- What this comes to.
abbrev pub AreDistinct : List Report → Type 0
AreDistinct [] = ⊤
AreDistinct (r ∷ rs) = (has_report rs r ≡ false) × AreDistinct rs

abbrev pub HaveSameReports : List Report → List Report → Type 0
HaveSameReports rs ss = (report : Report) → has_report rs report ≡ has_report ss report

-- the given reports, each once, ascending, and those that the order doesn't tell apart as they were given
pub record AreInOrder (given reports : List Report) : Type 0 where
  pub ascending : AreAscending is_before reports
  pub same : HaveSameReports reports given
  pub once : AreDistinct reports
  pub stable : TiesStay is_before (firsts given) reports
