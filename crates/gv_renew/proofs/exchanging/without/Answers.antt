use Rattle.std.proofs.Common.{◌≡◌, ℕ, ◌+◌, ◌++◌, List, ◌∷◌, length, arith, ap, sym, append-nil, ◌∙◌}
use Rattle.std.specs.Vec.Iter.{into_iter_items}
use Rattle.gv_report.specs.declared.report.Report.{Report}
use Rattle.gv_renew.specs.Exchanging.{without}
use Rattle.gv_renew.proofs.PlaceLemmas.{nothing_left}
use Rattle.gv_renew.proofs.exchanging.without.Goals as goal

fits_still : (items more : List Report) (r : Report) {m n : ℕ} → items ≡ r ∷ more → m + 1 ≡ n → n ≡ length items → m ≡ length more
fits_still items more r next less fits = let longer = ap length next in omega (arith, longer, less, fits)

counted : (items more : List Report) (r : Report) (place end : ℕ) → items ≡ r ∷ more → place + length items ≡ end → (place + 1) + length more ≡ end
counted items more r place end next sum = let longer = ap length next in omega (arith, longer, sum)

pub loop-report-preserved : goal.loop-report-preserved
loop-report-preserved c =
    let old = c.loop-report.report-iterator in
    let new = c.next.new.self in
    let r = c.in-Some.report in
    let steps = c.in-Some.ensures.steps in (
      tt,
      tt,
      fits_still (into_iter_items old) (into_iter_items new) r steps.0 steps.1 c.loop-report.invariant.2,
      counted (into_iter_items old) (into_iter_items new) r c.loop-report.place c.args.end steps.0 c.loop-report.invariant.3,
      c.in_ok-rest.ensures (into_iter_items new) ∙ sym (ap (λ l. c.loop-report.kept.items ++ without c.loop-report.place c.loop-report.rest.now l) steps.0)
          ∙ c.loop-report.invariant.4,
    )

pub returns : goal.returns
returns c =
    let left = c.loop-report.report-iterator in
    sym (append-nil c.loop-report.kept.items)
    ∙ ap (λ l. c.loop-report.kept.items ++ l) (sym (nothing_left c.loop-report.place c.loop-report.rest.now (into_iter_items left)
    (let steps = c.in-None.ensures.steps in let fits = c.loop-report.invariant.2 in omega (arith, steps.0, fits)))) ∙ c.loop-report.invariant.4
