use Rattle.gv_reading.specs.Passing.{faulted}
use Rattle.gv_reading.proofs.reader.Reader.count.Goals as goal

pub returns-in_err-found-clause-cause : goal.returns-in_err-found-clause-cause
returns-in_err-found-clause-cause g c = rw (faulted c.from_residual.result c.from_residual.ensures.1) (c.in_err-found.ensures.cause c.args.self.now)
