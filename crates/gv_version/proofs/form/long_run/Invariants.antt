use Rattle.std.proofs.Common.{◌≡◌, ◌-◌, drop, length}
use Rattle.gv_version.specs.Form.{long_run, long_run_from}
use Rattle.gv_version.proofs.form.long_run.Given as goal

abbrev pub invariant-loop-at : goal.invariant-loop-at
invariant-loop-at l = long_run_from l.at (drop l.at l.bytes) ≡ long_run l.bytes

abbrev pub decreases-loop-at : goal.decreases-loop-at
decreases-loop-at l = length l.bytes - l.at
