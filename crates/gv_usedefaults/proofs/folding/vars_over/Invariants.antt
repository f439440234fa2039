use Rattle.std.proofs.Common.{◌≡◌, drop}
use Rattle.gv_usedefaults.specs.Defaults.{vars_over}
use Rattle.gv_usedefaults.proofs.folding.vars_over.Given as goal

abbrev pub invariant-loop-dir : goal.invariant-loop-dir
invariant-loop-dir l = vars_over l.files l.vars (drop l.dir-index l.dirs) ≡ vars_over l.files l.fn.vars l.dirs
