use Rattle.std.proofs.Common.{◌≡◌, ◌++◌, drop, map}
use Rattle.std.specs.Prelude.{codes}
use Rattle.gv_entry.specs.EntryValues.{unmarked}
use Rattle.gv_entry.proofs.entry_values.flags_of.Given as goal

abbrev pub invariant-loop-word : goal.invariant-loop-word
invariant-loop-word l = l.flags ++ map (unmarked (codes "+-")) (drop l.word-index l.words) ≡ map (unmarked (codes "+-")) l.words
