use Rattle.std.proofs.Common.{◌≡◌, map}
use Rattle.gv_base.specs.ByteMap.{seen_entry}
use Rattle.gv_defaults.proofs.SetLemmas.{set_each}
use Rattle.gv_defaults.proofs.defaults.fold_values.Given as goal

abbrev pub invariant-loop-name : goal.invariant-loop-name
invariant-loop-name l = set_each l.before l.vars (map seen_entry l.name-iterator) ≡ set_each l.before l.before (map seen_entry l.fn.values.entries)
