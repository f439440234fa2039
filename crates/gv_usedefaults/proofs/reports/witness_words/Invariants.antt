use Rattle.std.proofs.Common.{◌≡◌, ◌++◌, drop, map}
use Rattle.gv_usedefaults.specs.Asked.{on_of}
use Rattle.gv_usedefaults.specs.Reports.{witness_word}
use Rattle.gv_usedefaults.proofs.reports.witness_words.Given as goal

abbrev pub invariant-loop-flag : goal.invariant-loop-flag
invariant-loop-flag l = l.words ++ map (witness_word (on_of l.asked)) (drop l.flag-index l.flags) ≡ map (witness_word (on_of l.asked)) l.flags
