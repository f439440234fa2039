use Rattle.std.proofs.Common.{◌≡◌, drop, map, ◌++◌}
use Rattle.std.specs.Prelude.{codes}
use Rattle.gv_entry.specs.EntryValues.{value_behind, value_of}
use Rattle.gv_entry.proofs.entry_values.EntryText.value_of.Given as goal

abbrev pub invariant-loop-line : goal.invariant-loop-line
invariant-loop-line l = value_behind (l.key ++ codes "=") (map (λ line. line.now) (drop l.line-index l.line-items)) ≡ value_of l.key l.self
