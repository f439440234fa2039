use Rattle.std.proofs.Common.{refl}
use Rattle.gv_reading.specs.Paths.{within}
use Rattle.gv_reading.specs.NamedFiles.{file_steps}
use Rattle.gv_reading.specs.Passing.{ended_first, ended_then, faulted, read_then}
use Rattle.gv_load.proofs.directories.read_pair.Goals as goal

pub returns-in_err-mask : goal.returns-in_err-mask
returns-in_err-mask g c = rw (faulted c.from_residual.result c.from_residual.ensures.1) (ended_first (λ look. file_steps look (within c.args.dir.now c.args.forcing.now)) c.in_err-mask.ensures (λ look. refl))

pub returns-in_err-force : goal.returns-in_err-force
returns-in_err-force g c = rw (faulted c.from_residual-in_err-force.result c.from_residual-in_err-force.ensures.1) (ended_then c.in_ok-mask.ensures c.in_err-force.ensures (λ look is. refl))

pub returns : goal.returns
returns g c = read_then c.in_ok-mask.ensures c.in_ok-force.ensures (λ look mask force. refl) (λ look mask force. rw (mask, force) refl)
