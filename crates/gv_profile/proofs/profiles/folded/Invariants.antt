use Rattle.std.proofs.Common.{◌≡◌, drop}
use Rattle.std.specs.Prelude.{fold}
use Rattle.std.specs.FinMap.{get}
use Rattle.gv_profile.specs.Folding.{start, with_dir}
use Rattle.gv_profile.proofs.profiles.folded.Given as goal

abbrev pub invariant-loop-dir : goal.invariant-loop-dir
invariant-loop-dir l = record {
  same : l.sources ≡ l.fn.sources;
  folded : fold (with_dir (get l.sources.dirs)) l.all (drop l.dir-index l.stack) ≡ fold (with_dir (get l.fn.sources.dirs)) (start l.fn.sources.first) l.stack;
}
