use Rattle.gv_reading.proofs.Readings.{told_found}
use Rattle.gv_reading.proofs.reader.read_new.Goals as goal

pub returns-in-Ok-clause-found : goal.returns-in-Ok-clause-found
returns-in-Ok-clause-found g c = told_found _ c.args.path.now c.in-Ok.found c.in-Ok.ensures.found
