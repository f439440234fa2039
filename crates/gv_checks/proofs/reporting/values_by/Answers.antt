use Rattle.gv_entry.specs.Allowed.{values_by}
use Rattle.gv_checks.proofs.WitnessLemmas.{no_values}
use Rattle.gv_checks.proofs.reporting.values_by.Goals as goal

pub returns-then-i-bits : goal.returns-then-i-bits
returns-then-i-bits c =
    no_values c.args.preferred.now c.args.bits.now c.loop-i.i c.loop-i.values (values_by c.args.preferred.now c.args.bits.now) c.if-i-bits.true c.loop-i.invariant
