use Rattle.std.proofs.lemmas.Result.{IfOk-weaker}
use Rattle.gv_usedefaults.proofs.LineTurning.{all_told, cause_told, lines_told, on_ok}
use Rattle.gv_usedefaults.proofs.line_walk.read_line_files.Goals as goal

pub read_lines-requires : goal.read_lines-requires
read_lines-requires g c = c.new-reader.ensures.knows (g.T.Tree.files c.args.tree.now)

pub returns-in-Ok-clause-read : goal.returns-in-Ok-clause-read
returns-in-Ok-clause-read g c = IfOk-weaker c.when_small.result _ _ (λ read is. lines_told c.args.starts.now c.new-reader.ensures.is c.in-Ok.files.items read.items is c.in-Ok.ensures) c.when_small.ensures.same

pub returns-in-Ok-clause-all : goal.returns-in-Ok-clause-all
returns-in-Ok-clause-all g c = on_ok c.when_small.result (all_told c.args.starts.now c.new-reader.ensures.is c.in-Ok.files.items c.in-Ok.ensures)

pub returns-clause-cause : goal.returns-clause-cause
returns-clause-cause g c = cause_told c.args.starts.now c.new-reader.ensures.is c.in-Err.fault c.without_need.result c.without_need.ensures c.in-Err.ensures
