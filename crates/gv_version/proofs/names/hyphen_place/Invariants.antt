use Rattle.std.proofs.Common.{◌≡◌, [], drop, take}
use Rattle.gv_version.specs.Names.{hyphen_from}
use Rattle.gv_version.proofs.names.hyphen_place.Given as goal

abbrev pub invariant-loop-i : goal.invariant-loop-i
invariant-loop-i l = hyphen_from (take l.i l.bytes) (drop l.i l.bytes) ≡ hyphen_from [] l.bytes
