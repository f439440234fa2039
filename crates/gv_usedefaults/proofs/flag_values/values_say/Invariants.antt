use Rattle.std.proofs.Common.{◌≡◌, drop}
use Rattle.gv_usedefaults.specs.Defaults.{either_says, values_say}
use Rattle.gv_usedefaults.proofs.flag_values.values_say.Given as goal

abbrev pub invariant-loop-list : goal.invariant-loop-list
invariant-loop-list l = either_says l.said (values_say (drop l.list-index l.lists) l.flag) ≡ values_say l.lists l.flag
