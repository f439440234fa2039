use Rattle.std.proofs.Common.{length}
use Rattle.gv_base.specs.ByteMap.{map_of}
use Rattle.gv_defaults.specs.Reads.{IsLeft}
use Rattle.gv_defaults.proofs.assigning.read_file.Given as goal

abbrev pub invariant-loop-item : goal.invariant-loop-item
invariant-loop-item l = IsLeft l.before l.bytes (map_of l.values.entries) l.line l.rest

abbrev pub decreases-loop-item : goal.decreases-loop-item
decreases-loop-item l = length l.rest
