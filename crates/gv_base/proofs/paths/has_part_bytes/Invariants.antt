use Rattle.std.proofs.Common.{◌≡◌, drop}
use Rattle.gv_base.specs.Paths.{has_part_bytes}
use Rattle.gv_base.proofs.paths.has_part_bytes.Given as goal

abbrev pub invariant-loop-b : goal.invariant-loop-b
invariant-loop-b l = has_part_bytes (drop l.b-index l.bytes) ≡ has_part_bytes l.bytes
