use Rattle.std.proofs.Common.{◌≡◌, ◌++◌, length}
use Rattle.gv_edits.specs.Line.{words_of_line}
use Rattle.gv_edits.specs.Reading.{words_left}
use Rattle.gv_edits.proofs.line.words_of_line.Given as goal

abbrev pub invariant-loop-word : goal.invariant-loop-word
invariant-loop-word l = l.words ++ words_left l.rest ≡ words_of_line l.fn.line

abbrev pub decreases-loop-word : goal.decreases-loop-word
decreases-loop-word l = length (words_left l.rest)
