use Rattle.std.proofs.Common.{◌≡◌, drop}
use Rattle.gv_version.specs.Names.{ends_in_version}
use Rattle.gv_version.proofs.names.ends_in_version.Given as goal

abbrev pub invariant-loop-i : goal.invariant-loop-i
invariant-loop-i l = ends_in_version (drop l.i l.bytes) ≡ ends_in_version l.bytes
