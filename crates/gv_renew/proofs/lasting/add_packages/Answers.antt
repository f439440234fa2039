use Rattle.gv_renew.specs.Touched.{is_stale_by}
use Rattle.gv_renew.proofs.LastingLemmas.{package_not_stale}
use Rattle.gv_renew.proofs.RunLemmas.{left_behind}
use Rattle.gv_renew.proofs.lasting.add_packages.Goals as goal

pub add_package-requires-clause-far : goal.add_package-requires-clause-far
add_package-requires-clause-far c = λ e. package_not_stale c.args.edits.now c.args.touched.now c.in-Some.run'.here.now (c.in-Some.ensures.far e)

pub loop-run-preserved : goal.loop-run-preserved
loop-run-preserved c =
    let run = c.in-Some.run' in
    let test = is_stale_by c.args.edits.now c.args.touched.now in
    left_behind test c.args.start c.args.reports.now c.args.places.now.items c.loop-run.at c.loop-run.rest.now run.here.now run.behind.now
    c.loop-run.places.items c.add_package.new.places.items c.loop-run.invariant c.in-Some.ensures.parts c.in_ok-add_package.ensures
