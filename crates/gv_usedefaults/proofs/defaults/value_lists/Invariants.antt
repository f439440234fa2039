use Rattle.std.proofs.Common.{◌≡◌, ◌++◌, drop, map}
use Rattle.gv_usedefaults.specs.Defaults.{value_list}
use Rattle.gv_usedefaults.proofs.defaults.value_lists.Given as goal

abbrev pub invariant-loop-name : goal.invariant-loop-name
invariant-loop-name l = l.lists ++ map (value_list l.vars) (drop l.name-index l.names) ≡ map (value_list l.vars) l.names
