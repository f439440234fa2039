use Rattle.std.proofs.Common.{◌≡◌, ◌+◌, drop}
use Rattle.std.specs.List.{prefix_len}
use Rattle.gv_version.specs.Bytes.{is_small}
use Rattle.gv_version.proofs.pieces.word_length.Given as goal

abbrev pub invariant-loop-i : goal.invariant-loop-i
invariant-loop-i l = l.i + prefix_len is_small (drop l.i l.bytes) ≡ prefix_len is_small l.bytes
