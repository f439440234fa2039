use Rattle.std.proofs.Common.{[], subst}
use Rattle.gv_report.specs.Distinct.{is_before}
use Rattle.gv_report.specs.Sorting.{AreAscending}
use Rattle.gv_renew.specs.Touched.{is_stale_by}
use Rattle.gv_renew.proofs.LastingLemmas.{far_not_stale}
use Rattle.gv_renew.proofs.RunLemmas.{ascending_front, left_behind}
use Rattle.gv_renew.proofs.lasting.stale_places.Goals as goal

pub add_category-requires-clause-order : goal.add_category-requires-clause-order
add_category-requires-clause-order c =
    let run = c.in-Some.run' in
    ascending_front run.here.now run.behind.now (subst (AreAscending is_before) c.in-Some.ensures.parts c.loop-run.invariant.order)

pub add_category-requires-clause-far : goal.add_category-requires-clause-far
add_category-requires-clause-far c =
    let categories = c.in_ok-categories.categories in
    let here = c.in-Some.run'.here.now in
    λ e. far_not_stale c.args.edits.now c.args.touched.now c.edited_in_law.ensures categories c.in_ok-categories.ensures here (c.in-Some.ensures.far e)

pub loop-run-preserved : goal.loop-run-preserved
loop-run-preserved c =
    let run = c.in-Some.run' in
    let test = is_stale_by c.args.edits.now c.args.touched.now in
    left_behind test 0 c.args.before.now [] c.loop-run.at c.loop-run.rest.now run.here.now run.behind.now
    c.loop-run.places.items c.add_category.new.places.items c.loop-run.invariant c.in-Some.ensures.parts c.in_ok-add_category.ensures
