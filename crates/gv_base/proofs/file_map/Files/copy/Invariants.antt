use Rattle.std.proofs.Common.{◌≡◌, map}
use Rattle.gv_base.specs.ByteMap.{seen_entry}
use Rattle.gv_base.proofs.ByteMaps.{put_each}
use Rattle.gv_base.proofs.file_map.Files.copy.Given as goal

abbrev pub invariant-loop-path : goal.invariant-loop-path
invariant-loop-path l = put_each l.files (map seen_entry l.path-iterator) ≡ l.self
