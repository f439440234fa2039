use Rattle.std.proofs.Common.{◌++◌, refl, ap, ◌∙◌}
use Rattle.std.specs.Prelude.{Option}
use Rattle.gv_profile.specs.declared.files.DirFiles.{DirFiles}
use Rattle.gv_load.specs.Ahead.{ahead_of, dirs_with}
use Rattle.gv_reading.specs.Passing.{faulted, no_memory, read_as}
use Rattle.gv_load.proofs.reaching.visit.Goals as goal

pub returns-in_err-files-clause-reads : goal.returns-in_err-files-clause-reads
returns-in_err-files-clause-reads g c = rw (faulted c.from_residual.result c.from_residual.ensures.1) c.in_err-files.ensures

pub returns-in_err-keep-clause-reads : goal.returns-in_err-keep-clause-reads
returns-in_err-keep-clause-reads g c = rw (faulted c.from_residual-in_err-keep.result c.from_residual-in_err-keep.ensures.1) (no_memory c.in_ok-files.ensures.same)

pub returns-clause-reads : goal.returns-clause-reads
returns-clause-reads g c = read_as c.in_ok-files.ensures (λ look is. refl) (λ look is. record {
  parents = c.in_ok-keep.ensures.ahead ∙ ap (λ (o : Option DirFiles). c.args.ahead.now.items ++ ahead_of c.args.dir o) is;
  files = c.in_ok-keep.ensures.dirs ∙ ap (dirs_with c.args.reached.dirs c.args.dir) is;
})
