use Rattle.std.proofs.Common.{◌≡◌, ◌++◌, ℕ, List, drop}
use Rattle.gv_facts.specs.Places.{places_from, places_of}
use Rattle.gv_usedefaults.specs.PlaceMaps.{places_at}
use Rattle.gv_usedefaults.specs.Stacks.{in_dir}
use Rattle.gv_usedefaults.proofs.line_files.index_of.Given as goal

abbrev pub invariant-loop-i : goal.invariant-loop-i
invariant-loop-i l = (dir : List ℕ) → places_at l.index dir ++ places_from l.i (in_dir dir) (drop l.i l.items) ≡ places_of (in_dir dir) l.items
