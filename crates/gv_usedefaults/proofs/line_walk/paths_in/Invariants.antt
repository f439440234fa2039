use Rattle.std.proofs.Common.{◌≡◌, ◌++◌, drop}
use Rattle.std.specs.List.{filter_map}
use Rattle.gv_usedefaults.specs.LineFiles.{paths_in}
use Rattle.gv_usedefaults.proofs.line_walk.paths_in.Given as goal

abbrev pub invariant-loop-line : goal.invariant-loop-line
invariant-loop-line l = l.paths ++ filter_map (λ p. p.path) (drop l.line-index l.line-items) ≡ paths_in l.dir l.bytes
