use Rattle.std.proofs.Common.{◌≡◌, ◌++◌, drop, filter, map}
use Rattle.std.specs.Prelude.{codes}
use Rattle.gv_entry.specs.EntryRead.{has_sign}
use Rattle.gv_entry.proofs.entry_values.plus_flags_of.Given as goal

abbrev pub invariant-loop-word : goal.invariant-loop-word
invariant-loop-word l = l.flags ++ map (drop 1) (filter (has_sign (codes "+")) (drop l.word-index l.words)) ≡ map (drop 1) (filter (has_sign (codes "+")) l.words)
