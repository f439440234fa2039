use Rattle.gv_probe.proofs.Named.{named_here}
use Rattle.gv_probe.proofs.checks.first_place.Goals as goal

pub has_gates-requires : goal.has_gates-requires
has_gates-requires g c = named_here c.args.options.now c.args.repo.now c.items-name-items.result.now c.loop-name.name-index _ c.loop-name.invariant c.loop-name-test.true
