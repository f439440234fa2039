-- Reports of which some are told anew.
use Rattle.std.specs.Prelude.{◌≡◌, Bool, true, false, not, List, ◌++◌, filter}
use Rattle.std.specs.List.{AllByRecursion}
use Rattle.std.specs.Ordering.{eq_by_cmp}
use Rattle.gv_report.specs.Distinct.{ordered}
use Rattle.gv_report.specs.Order.{report_cmp}
use Rattle.gv_report.specs.declared.report.Report.{Report}

-- the order doesn't tell them apart
abbrev pub is_tied : Report → Report → Bool
is_tied = eq_by_cmp report_cmp

-- reports that the order doesn't tell apart are alike in this
abbrev pub FollowsOrder : (Report → Bool) → Type 0
FollowsOrder test = (r s : Report) → is_tied r s ≡ true → test r ≡ test s

-- Where the reports of now that aren't stale are those of before, and the others are told anew, then the reports of before
-- without the stale ones, with those told anew behind them, are in order what the reports of now are in order.
abbrev pub RenewedLaw : Type 0
RenewedLaw = (is_stale : Report → Bool) → FollowsOrder is_stale → (old now fresh : List Report)
    → ((r : Report) → is_stale r ≡ false → filter (is_tied r) old ≡ filter (is_tied r) now)
    → ((r : Report) → is_stale r ≡ true → filter (is_tied r) fresh ≡ filter (is_tied r) now)
    → AllByRecursion (λ r. is_stale r ≡ true) fresh
    → ordered (filter (λ r. not (is_stale r)) (ordered old) ++ fresh) ≡ ordered now
