use Rattle.std.proofs.Common.{◌≡◌, drop}
use Rattle.std.specs.Prelude.{fold}
use Rattle.gv_renew.specs.Mentioned.{number_with}
use Rattle.gv_renew.proofs.mentioned.with_bytes.Given as goal

abbrev pub invariant-loop-byte : goal.invariant-loop-byte
invariant-loop-byte l = fold number_with l.number (drop l.byte-index l.bytes) ≡ fold number_with l.number-2 l.bytes
