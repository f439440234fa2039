use Rattle.std.proofs.Common.{◌++◌, refl, ap, ◌∙◌}
use Rattle.std.specs.Prelude.{reverse}
use Rattle.gv_usedefaults.proofs.LineTurning.{pushed_ahead}
use Rattle.gv_reading.specs.Passing.{faulted, no_memory, read_as}
use Rattle.gv_usedefaults.proofs.line_walk.enter.Goals as goal

pub returns-in_err-paths-clause-reads : goal.returns-in_err-paths-clause-reads
returns-in_err-paths-clause-reads g c = rw (faulted c.from_residual.result c.from_residual.ensures.1) c.in_err-paths.ensures

pub returns-in_err-with_dir-clause-reads : goal.returns-in_err-with_dir-clause-reads
returns-in_err-with_dir-clause-reads g c = rw (faulted c.from_residual-in_err-with_dir.result c.from_residual-in_err-with_dir.ensures.1) (no_memory c.in_ok-paths.ensures.same)

pub returns-clause-reads : goal.returns-clause-reads
returns-clause-reads g c = read_as c.in_ok-paths.ensures (λ look is. refl) (λ look is. record {
  files = c.in_ok-with_dir.ensures.files ∙ is.0;
  ahead = pushed_ahead c.args.turning.ahead.items c.in_ok-with_dir.field-0.ahead.items c.in_ok-paths.paths c.in_ok-with_dir.ensures.ahead ∙ ap (λ ps. ps ++ reverse c.args.turning.ahead.items) is.1;
})
