use Rattle.gv_reading.specs.Passing.{ended_need, faulted}
use Rattle.gv_reading.proofs.reader.Reader.need.Goals as goal

pub returns-in_err-text : goal.returns-in_err-text
returns-in_err-text g c = rw (faulted c.from_residual.result c.from_residual.ensures.1) (ended_need c.in_err-text.ensures)
