use Rattle.std.proofs.Common.{◌≡◌, ◌||◌, ℕ, List, drop}
use Rattle.gv_usestate.specs.FlagSets.{has_flag}
use Rattle.gv_usestate.specs.Kinds.{is_ruled}
use Rattle.gv_usestate.proofs.ruled.ruled_by.Given as goal

abbrev pub invariant-loop-profile : goal.invariant-loop-profile
invariant-loop-profile l = (flag : List ℕ) → (has_flag l.flags.keys flag || is_ruled (drop l.profile-index l.profiles) flag) ≡ is_ruled l.profiles flag
