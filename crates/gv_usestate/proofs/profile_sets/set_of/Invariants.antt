use Rattle.std.proofs.Common.{◌≡◌, ◌||◌, ℕ, List, drop}
use Rattle.gv_base.specs.Order.{has_text}
use Rattle.gv_usestate.specs.FlagSets.{has_owned}
use Rattle.gv_usestate.proofs.profile_sets.set_of.Given as goal

abbrev pub invariant-loop-flag : goal.invariant-loop-flag
invariant-loop-flag l = (flag : List ℕ) → (has_owned l.set.keys flag || has_text (drop l.flag-index l.flags) flag) ≡ has_text l.flags flag
