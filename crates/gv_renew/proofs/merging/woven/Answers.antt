use Rattle.std.proofs.Common.{◌≡◌, ℕ, ◌+◌, ◌++◌, ◌∷◌, List, length, sym, ap, subst, ◌∙◌, arith}
use Rattle.std.specs.Vec.Iter.{into_iter_items, into_iter_len}
use Rattle.gv_report.specs.declared.report.Report.{Report}
use Rattle.gv_report.specs.Distinct.{is_before}
use Rattle.gv_renew.specs.Merging.{woven}
use Rattle.gv_report.specs.Sorting.{AreAscending}
use Rattle.gv_renew.proofs.Weaving.{left_ascends, put_next}
use Rattle.gv_renew.proofs.merging.woven.Goals as goal

fits_still : (items more : List Report) (r : Report) {m n : ℕ} → items ≡ r ∷ more → m + 1 ≡ n → n ≡ length items → m ≡ length more
fits_still items more r next less fits = let longer = ap length next in omega (arith, longer, less, fits)

pub loop-report-preserved : goal.loop-report-preserved
loop-report-preserved c =
    let rest = c.loop-report.rest.items in
    let more = c.put.new.rest.items in
    let r = c.in-Some.report in
    let old = c.loop-report.report-iterator in
    let new = c.next.new.self in
    let steps = c.in-Some.ensures.steps in
    let fits : into_iter_len new ≡ length (into_iter_items new) = fits_still (into_iter_items old) (into_iter_items new) r steps.0 steps.1 c.loop-report.invariant.2 in (
      tt,
      tt,
      fits,
      subst (AreAscending is_before) (sym c.in_ok-put.ensures.rest) (left_ascends r rest c.loop-report.invariant.3),
      put_next c.loop-report.all.items c.put.new.woven.items rest more (into_iter_items new) _ r c.in_ok-put.ensures.woven c.in_ok-put.ensures.rest
          (sym (ap (λ l. c.loop-report.all.items ++ woven rest l) steps.0) ∙ c.loop-report.invariant.4),
    )
