use Rattle.std.proofs.Common.{◌≡◌, ◌++◌, drop}
use Rattle.gv_trail.specs.Entries.{lits_of}
use Rattle.gv_solver.specs.Replay.{replay_by}
use Rattle.gv_solver.specs.Resting.{reasons}
use Rattle.gv_solver.proofs.steps.replayed.Given as goal

abbrev pub invariant-loop-lit : goal.invariant-loop-lit
invariant-loop-lit l = l.hints ++ replay_by (reasons l.trail) l.on.items (drop l.lit-index l.lit-items) l.last ≡ replay_by (reasons l.trail) l.fn.on.items (lits_of l.trail.entries) l.last
