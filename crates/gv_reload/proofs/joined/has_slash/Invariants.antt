use Rattle.std.proofs.Common.{◌≡◌, drop}
use Rattle.gv_reload.specs.Joined.{has_slash}
use Rattle.gv_reload.proofs.joined.has_slash.Given as goal

abbrev pub invariant-loop-byte : goal.invariant-loop-byte
invariant-loop-byte l = has_slash (drop l.byte-index l.text) ≡ has_slash l.text
