use Rattle.std.proofs.Common.{subst, sym}
use Rattle.gv_reading.specs.Causes.{Knows}
use Rattle.gv_reading.specs.Reader.{Seen}
use Rattle.gv_reading.proofs.Readings.{knows_nothing}
use Rattle.gv_reading.proofs.reader.Reader.new.Goals as goal

pub returns-clause-knows : goal.returns-clause-knows
returns-clause-knows c = λ told. subst (λ (s : Seen). Knows told s) (sym c.fresh.ensures) (knows_nothing told)
