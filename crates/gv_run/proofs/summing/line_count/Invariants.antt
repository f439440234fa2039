use Rattle.std.proofs.Common.{◌≡◌, ◌+◌, ◌≤◌, drop}
use Rattle.gv_run.specs.Summary.{line_count}
use Rattle.gv_run.proofs.summing.line_count.Given as goal

abbrev pub invariant-loop-b : goal.invariant-loop-b
invariant-loop-b l = (l.count + line_count (drop l.b-index l.text) ≡ line_count l.text) × (l.count ≤ l.b-index)
