use Rattle.std.proofs.Common.{◌≡◌, false, ◌++◌, IfOk, sym, ap, subst, ◌∙◌}
use Rattle.gv_report.specs.Distinct.{is_before, ordered}
use Rattle.gv_renew.specs.Merging.{some_tied, woven}
use Rattle.gv_report.specs.Sorting.{AreAscending}
use Rattle.gv_renew.proofs.Weaving.{ascending, ordered_behind, woven_ordered}
use Rattle.gv_renew.proofs.merging.merged.Goals as goal

pub some_tied-requires : goal.some_tied-requires
some_tied-requires c = subst (AreAscending is_before) (sym c.items.ensures) (ascending c.args.kept c.requires)

pub returns-then-some_tied : goal.returns-then-some_tied
returns-then-some_tied c =
    let kept = c.args.kept in
    let fresh = c.args.fresh in
    let all = c.in_ok-append.ensures.ok ∙ ap (λ l. kept ++ l) c.in_ok-fresh.ensures in
    subst (λ l. IfOk c.ordered-then-some_tied.result (λ merged. merged ≡ l)) (ap ordered all ∙ ordered_behind kept fresh) c.ordered-then-some_tied.ensures

pub woven-requires : goal.woven-requires
woven-requires c = subst (AreAscending is_before) (sym c.into_items.ensures) (ascending c.args.kept c.requires)

pub returns : goal.returns
returns c =
    let kept = c.args.kept in
    let fresh = c.args.fresh in
    let apart : some_tied kept (ordered fresh) ≡ false =
    ap (some_tied kept) (sym c.in_ok-fresh.ensures) ∙ ap (some_tied kept) (sym c.items-2.ensures) ∙ ap (λ l. some_tied l c.items-2.result.now) (sym c.items.ensures)
    ∙ sym c.some_tied.ensures ∙ c.if-some_tied.false in
    c.of.ensures ∙ c.in_ok-items.ensures ∙ ap (λ l. woven l c.into_items-2.result.items) c.into_items.ensures ∙ ap (woven kept) (c.into_items-2.ensures ∙ c.in_ok-fresh.ensures)
    ∙ woven_ordered kept fresh c.requires apart
