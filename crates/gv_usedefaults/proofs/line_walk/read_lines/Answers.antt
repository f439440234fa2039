use Rattle.std.proofs.Common.{◌++◌, sym, ap}
use Rattle.gv_reading.specs.NamedFiles.{file_steps}
use Rattle.gv_usedefaults.specs.LineFiles.{dirs_from, dirs_steps, most_turns}
use Rattle.gv_usedefaults.proofs.LineTurning.{steps_left, whole_all, whole_files, whole_steps}
use Rattle.gv_reading.specs.Passing.{ended_first, ended_then, faulted, no_memory, read_then}
use Rattle.gv_usedefaults.proofs.line_walk.read_lines.Goals as goal

pub returns-in_err-own : goal.returns-in_err-own
returns-in_err-own g c =
    let starts = c.args.starts.now in
    rw (faulted c.from_residual-in_err-own.result c.from_residual-in_err-own.ensures.1) (ended_first (λ look. dirs_steps look (dirs_from look starts)) c.in_err-own.ensures
    (λ look. ap (λ p. file_steps look p ++ dirs_steps look (dirs_from look starts)) (sym c.in_ok-path.ensures)))

pub returns-in_err-turning : goal.returns-in_err-turning
returns-in_err-turning g c = rw (faulted c.from_residual-in_err-turning.result c.from_residual-in_err-turning.ensures.1) (no_memory c.in_ok-own.ensures.same)

pub returns-in-Ok : goal.returns-in-Ok
returns-in-Ok g c =
    let starts = c.args.starts.now in
    let t = c.in_ok-turning.turning in
    let path = c.in_ok-path.path in
    let said = c.in_ok-turning.ensures in
    read_then c.in_ok-own.ensures c.in-Ok.ensures (λ look own files. whole_steps look path starts t c.in_ok-path.ensures said.order said.ahead)
    (λ look own files. (
      whole_files look path starts t c.in_ok-path.ensures said.order said.ahead c.in_ok-top.top c.in_ok-own.own c.in-Ok.files.items c.in_ok-top.ensures own said.files files.0,
      whole_all look path starts t c.in_ok-path.ensures said.order said.ahead files.1,
    ))

pub returns : goal.returns
returns g c =
    let said = c.in_ok-turning.ensures in
    ended_then c.in_ok-own.ensures c.in-Err.ensures (λ look own. whole_steps look c.in_ok-path.path c.args.starts.now c.in_ok-turning.turning c.in_ok-path.ensures said.order said.ahead)
