use Rattle.std.proofs.Common.{◌≡◌, ◌++◌, drop}
use Rattle.gv_usedefaults.specs.Defaults.{words_over}
use Rattle.gv_usedefaults.proofs.folding.words_over.Given as goal

abbrev pub invariant-loop-dir : goal.invariant-loop-dir
invariant-loop-dir l = l.rules ++ words_over l.files (drop l.dir-index l.dirs) ≡ words_over l.files l.dirs
