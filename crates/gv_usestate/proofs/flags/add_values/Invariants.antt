use Rattle.std.proofs.Common.{◌≡◌, ◌++◌, drop}
use Rattle.gv_facts.specs.Effective.{values_of}
use Rattle.gv_usestate.proofs.flags.add_values.Given as goal

abbrev pub invariant-loop-list : goal.invariant-loop-list
invariant-loop-list l = l.flags ++ values_of (drop l.list-index l.values) l.name ≡ l.fn.flags ++ values_of l.values l.name
