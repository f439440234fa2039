use Rattle.std.proofs.Common.{◌≡◌, ◌+◌, not, drop}
use Rattle.std.specs.List.{prefix_len}
use Rattle.gv_base.specs.Pieces.{separates}
use Rattle.gv_base.proofs.pieces.front_len.Given as goal

abbrev pub invariant-loop-i : goal.invariant-loop-i
invariant-loop-i l = l.i + prefix_len (λ b. not (separates l.cut b)) (drop l.i l.bytes) ≡ prefix_len (λ b. not (separates l.cut b)) l.bytes
