use Rattle.std.proofs.Common.{◌≡◌, drop}
use Rattle.gv_defaults.specs.Items.{lines_after}
use Rattle.gv_defaults.proofs.assigning.lines_after.Given as goal

abbrev pub invariant-loop-b : goal.invariant-loop-b
invariant-loop-b l = lines_after l.after (drop l.b-index l.bytes) ≡ lines_after l.line l.bytes
