use Rattle.std.proofs.Common.{◌≡◌, Bool, true, false, List, [], ◌∷◌, ◌++◌, length, refl, sym, ap, ◌∙◌, append-nil, arith}
use Rattle.std.specs.Vec.Iter.{into_iter_items}
use Rattle.gv_report.specs.declared.report.Report.{Report}
use Rattle.gv_report.specs.Marks.{marked}
use Rattle.gv_report.proofs.distinct.marked.Goals as goal

no_more : (marks : List Bool) (rs : List Report) → length rs ≡ 0 → marked marks rs ≡ []
no_more [] rs h = refl
no_more (m ∷ ms) [] h = refl
no_more (true ∷ ms) (r ∷ rs) h = absurd (omega (arith, h))
no_more (false ∷ ms) (r ∷ rs) h = absurd (omega (arith, h))

pub returns : goal.returns
returns c =
    let kept = c.loop-report.kept.items in
    let rest = c.loop-report.rest.now in
    let items = into_iter_items c.loop-report.report-iterator in
    let left : marked rest items ≡ [] = no_more rest items (sym c.loop-report.invariant.2 ∙ c.in-None.ensures.steps.0) in
    sym (append-nil kept) ∙ ap (λ l. kept ++ l) (sym left) ∙ c.loop-report.invariant.3
