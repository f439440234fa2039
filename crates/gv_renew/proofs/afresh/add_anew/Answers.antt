use Rattle.std.proofs.Common.{◌++◌, rules}
use Rattle.std.specs.Prelude.{flat_map}
use Rattle.gv_renew.specs.Touched.{anew_at}
use Rattle.gv_renew.proofs.TouchedLemmas.{flat_end, flat_next}
use Rattle.gv_renew.proofs.afresh.add_anew.Goals as goal

pub loop-one-preserved : goal.loop-one-preserved
loop-one-preserved c =
    flat_next (anew_at c.args.walk.now.options c.args.walk.now.repo) c.args.touched.now c.loop-one.one-index c.loop-one.reports (c.args.reports.now ++ flat_map (anew_at c.args.walk.now.options c.args.walk.now.repo) c.args.touched.now)
    c.loop-one.invariant c.one-item.result (search rules) (search rules) c.add_pkg_anew.new.reports c.in_ok-add_pkg_anew.ensures

pub returns : goal.returns
returns c =
    flat_end (anew_at c.args.walk.now.options c.args.walk.now.repo) c.args.touched.now c.loop-one.one-index c.loop-one.reports (c.args.reports.now ++ flat_map (anew_at c.args.walk.now.options c.args.walk.now.repo) c.args.touched.now)
    c.loop-one.invariant (search rules)
