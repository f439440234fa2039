use Rattle.std.proofs.Common.{◌≡◌, ◌++◌, not, filter, drop}
use Rattle.gv_defaults.specs.Passed.{takes}
use Rattle.gv_defaults.specs.Indexed.{IsIndexed}
use Rattle.gv_defaults.proofs.folding.not_removed.Given as goal

abbrev pub invariant-loop-word : goal.invariant-loop-word
invariant-loop-word l =
    (l.indexed.words ++ filter (λ word. not (takes l.behind word)) (drop l.word-index l.words) ≡ filter (λ word. not (takes l.behind word)) l.words) × IsIndexed l.indexed
