use Rattle.std.proofs.Common.{◌≡◌, drop}
use Rattle.gv_report.specs.Printable.{is_printable_text}
use Rattle.gv_report.proofs.printable.is_printable_text.Given as goal

abbrev pub invariant-loop-byte : goal.invariant-loop-byte
invariant-loop-byte l = is_printable_text (drop l.byte-index l.bytes) ≡ is_printable_text l.bytes
