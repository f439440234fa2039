use Rattle.std.proofs.Common.{◌≡◌, drop}
use Rattle.gv_base.specs.Paths.{has_plain_bytes}
use Rattle.gv_base.proofs.paths.has_plain_bytes.Given as goal

abbrev pub invariant-loop-b : goal.invariant-loop-b
invariant-loop-b l = has_plain_bytes (drop l.b-index l.bytes) ≡ has_plain_bytes l.bytes
