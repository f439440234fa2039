use Rattle.std.proofs.Common.{◌≡◌, drop}
use Rattle.gv_usestate.specs.Kinds.{is_ruled}
use Rattle.gv_usestate.proofs.ruled.is_ruled.Given as goal

abbrev pub invariant-loop-profile : goal.invariant-loop-profile
invariant-loop-profile l = is_ruled (drop l.profile-index l.profiles) l.flag ≡ is_ruled l.profiles l.flag
