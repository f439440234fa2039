use Rattle.std.proofs.Common.{◌++◌, refl, ap, ◌∙◌, append_assoc}
use Rattle.gv_usedefaults.specs.LineFiles.{kind_files, kinds_behind, kinds_files, kinds_steps}
use Rattle.gv_usedefaults.specs.declared.file_kinds.FileKind.TheVariants.{Parent}
use Rattle.gv_reading.specs.Passing.{ended_first, ended_then, faulted, read_then}
use Rattle.gv_usedefaults.proofs.line_walk.read_dir.Goals as goal

pub returns-in_err-paths : goal.returns-in_err-paths
returns-in_err-paths g c = rw (faulted c.from_residual.result c.from_residual.ensures.1) (ended_first (λ look. kinds_steps look c.args.dir.now kinds_behind) c.in_err-paths.ensures (λ look. refl))

pub returns-in_err-read_kinds : goal.returns-in_err-read_kinds
returns-in_err-read_kinds g c = rw (faulted c.from_residual-in_err-read_kinds.result c.from_residual-in_err-read_kinds.ensures.1) (ended_then c.in_ok-paths.ensures c.in_err-read_kinds.ensures (λ look is. refl))

pub returns : goal.returns
returns g c = read_then c.in_ok-paths.ensures c.in_ok-read_kinds.ensures (λ look one two. refl) (λ look one two.
    (two ∙ ap (λ l. l ++ kinds_files look c.args.dir.now kinds_behind) one.0 ∙ append_assoc c.args.files.now.items (kind_files look c.args.dir.now Parent) (kinds_files look c.args.dir.now kinds_behind), one.1))
