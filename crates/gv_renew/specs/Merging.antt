-- Words of private contracts: reports put among others that ascend.
use Rattle.std.specs.Prelude.{Bool, cond, List, [], ◌∷◌, ◌++◌}
use Rattle.std.specs.List.{list_any}
use Rattle.gv_report.specs.declared.report.Report.{Report}
use Rattle.gv_report.specs.Distinct.{is_before}
use Rattle.gv_renew.specs.Renewing.{is_tied}

-- those in front that come before the report, and the others
abbrev pub ahead : Report → List Report → List Report
ahead r [] = []
ahead r (k ∷ ks) = cond (is_before k r) (k ∷ ahead r ks) []

abbrev pub left : Report → List Report → List Report
left r [] = []
left r (k ∷ ks) = cond (is_before k r) (left r ks) (k ∷ ks)

-- each of the fresh ones behind those of the kept ones that come before it
abbrev pub woven : (kept fresh : List Report) → List Report
woven ks [] = ks
woven ks (r ∷ rs) = ahead r ks ++ r ∷ woven (left r ks) rs

-- the order doesn't tell one of them from the report
abbrev pub has_tied : List Report → Report → Bool
has_tied ks r = list_any (is_tied r) ks

abbrev pub some_tied : (kept fresh : List Report) → Bool
some_tied ks rs = list_any (has_tied ks) rs
