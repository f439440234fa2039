use Rattle.gv_probe.proofs.Named.{named_here}
use Rattle.gv_probe.proofs.checks.asked.Goals as goal

pub found-requires : goal.found-requires
found-requires g c = named_here c.args.options.now c.args.repo.now c.items-name-items.result.now c.loop-name.name-index _ c.loop-name.invariant c.loop-name-test.true
