use Rattle.gv_probe.proofs.Named.{named_here}
use Rattle.gv_probe.proofs.judging.answered.Goals as goal

pub is_reused-requires : goal.is_reused-requires
is_reused-requires g c = named_here c.args.options.now c.args.repo.now c.items-name-items.result.now c.loop-name.name-index _ c.loop-name.invariant c.loop-name-test.true
