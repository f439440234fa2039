use Rattle.std.proofs.Common.{◌≡◌, ◌||◌, ℕ, List, drop}
use Rattle.gv_base.specs.Order.{has_text}
use Rattle.gv_usedefaults.proofs.word_set.set_of.Given as goal

abbrev pub invariant-loop-word : goal.invariant-loop-word
invariant-loop-word l = (text : List ℕ) → (has_text l.set.keys text || has_text (drop l.word-index l.words) text) ≡ has_text l.words text
