use Rattle.std.proofs.Common.{◌≡◌, length}
use Rattle.gv_defaults.specs.Lasting.{from_last}
use Rattle.gv_defaults.specs.Indexed.{IsIndexed}
use Rattle.gv_defaults.proofs.folding.add_from_last.Given as goal

abbrev pub invariant-loop-word : goal.invariant-loop-word
invariant-loop-word l = (from_last l.more.words l.words.items ≡ from_last l.fn.indexed.words l.fn.words.items) × IsIndexed l.more

abbrev pub decreases-loop-word : goal.decreases-loop-word
decreases-loop-word l = length l.words.items
