use Rattle.std.proofs.Common.{◌≡◌, ◌++◌, drop}
use Rattle.std.specs.FinMap.{get}
use Rattle.gv_load.specs.Notes.{notes_in}
use Rattle.gv_load.proofs.line_profiles.notes_in.Given as goal

abbrev pub invariant-loop-dir : goal.invariant-loop-dir
invariant-loop-dir l = l.notes ++ notes_in (get l.reached.dirs) (drop l.dir-index l.reached.order) ≡ notes_in (get l.reached.dirs) l.reached.order
