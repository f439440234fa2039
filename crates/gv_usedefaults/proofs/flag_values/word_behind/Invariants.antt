use Rattle.std.proofs.Common.{◌≡◌, drop}
use Rattle.gv_usedefaults.specs.Defaults.{word_behind}
use Rattle.gv_usedefaults.proofs.flag_values.word_behind.Given as goal

abbrev pub invariant-loop-letter : goal.invariant-loop-letter
invariant-loop-letter l = word_behind (drop l.letter-index l.name) l.rest ≡ word_behind l.name l.flag
