use Rattle.std.proofs.Common.{◌≡◌, ◌++◌, drop}
use Rattle.gv_profile.proofs.mask_lines.MaskLines.add_copies.Given as goal

abbrev pub invariant-loop-line : goal.invariant-loop-line
invariant-loop-line l = l.self ++ drop l.line-index l.lines ≡ l.fn.self ++ l.lines
