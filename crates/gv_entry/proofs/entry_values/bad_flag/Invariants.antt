use Rattle.std.proofs.Common.{◌≡◌, ◌+◌, not, drop}
use Rattle.std.specs.List.{position_from}
use Rattle.gv_entry.specs.EntryValues.{is_iuse_word}
use Rattle.gv_entry.proofs.entry_values.bad_flag.Given as goal

abbrev pub invariant-loop-i : goal.invariant-loop-i
invariant-loop-i l = position_from (λ w. not (is_iuse_word w)) (l.i + 1) (drop l.i l.words) ≡ position_from (λ w. not (is_iuse_word w)) 1 l.words
