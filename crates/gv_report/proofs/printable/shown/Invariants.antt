use Rattle.std.proofs.Common.{◌≡◌, ◌++◌, drop}
use Rattle.gv_report.specs.Printable.{shown}
use Rattle.gv_report.proofs.printable.shown.Given as goal

abbrev pub invariant-loop-byte : goal.invariant-loop-byte
invariant-loop-byte l = l.text ++ shown (drop l.byte-index l.bytes) ≡ shown l.bytes
