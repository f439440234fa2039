use Rattle.gv_probe.proofs.Named.{named_here}
use Rattle.gv_probe.proofs.judging.known_count.Goals as goal

pub is_known-requires : goal.is_known-requires
is_known-requires g c = named_here c.args.options.now c.args.repo.now c.items-name-items.result.now c.loop-name.name-index _ c.loop-name.invariant c.loop-name-test.true
