use Rattle.std.proofs.Common.{◌≡◌, ◌++◌, drop, map}
use Rattle.gv_facts.specs.Effective.{prefixed, values_of}
use Rattle.gv_usestate.proofs.flags.add_name.Given as goal

abbrev pub invariant-loop-list : goal.invariant-loop-list
invariant-loop-list l = l.flags ++ map (prefixed l.name) (values_of (drop l.list-index l.values) l.name) ≡ l.fn.flags ++ map (prefixed l.name) (values_of l.values l.name)
