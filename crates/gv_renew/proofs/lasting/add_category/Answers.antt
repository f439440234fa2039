use Rattle.gv_renew.specs.Touched.{is_stale_by}
use Rattle.gv_renew.proofs.RunLemmas.{none_added}
use Rattle.gv_renew.proofs.lasting.add_category.Goals as goal

pub returns-then-not-run : goal.returns-then-not-run
returns-then-not-run c =
    let run = c.args.run.now in
    none_added (is_stale_by c.args.edits.now c.args.touched.now) c.args.at run.here.now c.args.places.now.items (c.requires.far c.if-not-run.true)
