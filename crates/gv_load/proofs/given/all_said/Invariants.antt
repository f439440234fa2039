use Rattle.std.proofs.Common.{◌≡◌, ◌++◌, drop}
use Rattle.gv_load.specs.Given.{all_said}
use Rattle.gv_load.proofs.given.all_said.Given as goal

abbrev pub invariant-loop-read : goal.invariant-loop-read
invariant-loop-read l = l.names ++ all_said (drop l.read-index l.reads) ≡ all_said l.reads
