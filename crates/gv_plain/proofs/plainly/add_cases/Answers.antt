use Rattle.std.proofs.Common.{◌++◌, refl}
use Rattle.std.specs.Prelude.{flat_map}
use Rattle.gv_plain.specs.Cases.{cases_of}
use Rattle.gv_plain.specs.Context.{listed}
use Rattle.gv_plain.specs.Plain.{told_case}
use Rattle.gv_plain.specs.Shown.{as_seen, seen_at}
use Rattle.gv_plain.proofs.ViewLemmas.{told_end, told_next}
use Rattle.gv_plain.proofs.plainly.add_cases.Goals as goal

pub add_judged-requires-clause-view : goal.add_judged-requires-clause-view
add_judged-requires-clause-view c =
    as_seen c.args.repo.now.pkgs c.view-item.result.profile c.view-item.result
    (seen_at c.args.repo.now.pkgs c.args.repo.now.profiles c.args.views.now c.loop-view.view-index c.view-item.result c.requires.views c.loop-view-test.true c.view-item.is).pkgs_are refl

pub loop-view-preserved : goal.loop-view-preserved
loop-view-preserved c =
    told_next c.args.options.now c.args.repo.now (listed c.args.one.now) c.args.views.now c.loop-view.view-index c.view-item.result
    c.requires.views c.loop-view-test.true c.view-item.is c.loop-view.reports c.add_judged.new.reports
    (c.args.reports.now ++ flat_map (told_case c.args.options.now) (cases_of c.args.repo.now (listed c.args.one.now)))
    c.in_ok-add_judged.ensures c.loop-view.invariant

pub returns : goal.returns
returns c =
    told_end c.args.options.now c.args.repo.now (listed c.args.one.now) c.args.views.now c.loop-view.view-index
    c.requires.views c.loop-view-test.false c.loop-view.reports
    (c.args.reports.now ++ flat_map (told_case c.args.options.now) (cases_of c.args.repo.now (listed c.args.one.now)))
    c.loop-view.invariant
