use Rattle.std.proofs.Common.{◌≡◌, map}
use Rattle.gv_base.specs.ByteMap.{put_each, seen_entry}
use Rattle.gv_defaults.proofs.vars.Vars.copy.Given as goal

abbrev pub invariant-loop-name : goal.invariant-loop-name
invariant-loop-name l = put_each l.vars (map seen_entry l.name-iterator) ≡ l.self
