use Rattle.std.proofs.Common.{◌≡◌, length}
use Rattle.std.specs.List.{list_all}
use Rattle.gv_base.specs.declared.pieces.Cut.TheVariants.{Parts}
use Rattle.gv_base.specs.Pieces.{left}
use Rattle.gv_profile.specs.Paths.{is_relative_part, is_relative}
use Rattle.gv_profile.proofs.paths.is_relative.Given as goal

abbrev pub invariant-loop-part : goal.invariant-loop-part
invariant-loop-part l = list_all is_relative_part (left Parts l.rest) ≡ is_relative l.path

abbrev pub decreases-loop-part : goal.decreases-loop-part
decreases-loop-part l = length (left Parts l.rest)
