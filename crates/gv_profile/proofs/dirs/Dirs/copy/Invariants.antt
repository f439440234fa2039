use Rattle.std.proofs.Common.{◌≡◌, map}
use Rattle.gv_base.specs.ByteMap.{put_each, seen_entry}
use Rattle.gv_profile.proofs.dirs.Dirs.copy.Given as goal

abbrev pub invariant-loop-dir : goal.invariant-loop-dir
invariant-loop-dir l = put_each l.dirs (map seen_entry l.dir-iterator) ≡ l.self
