use Rattle.std.proofs.Common.{◌≡◌, length}
use Rattle.std.specs.List.{list_all}
use Rattle.gv_base.specs.declared.pieces.Cut.TheVariants.{Parts}
use Rattle.gv_base.specs.Pieces.{left}
use Rattle.gv_base.specs.Paths.{is_part, is_path}
use Rattle.gv_base.proofs.paths.is_path.Given as goal

abbrev pub invariant-loop-part : goal.invariant-loop-part
invariant-loop-part l = list_all is_part (left Parts l.rest) ≡ is_path l.bytes

abbrev pub decreases-loop-part : goal.decreases-loop-part
decreases-loop-part l = length (left Parts l.rest)
