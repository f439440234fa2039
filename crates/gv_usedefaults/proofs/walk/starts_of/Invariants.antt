use Rattle.std.proofs.Common.{◌≡◌, ◌++◌, drop}
use Rattle.gv_usedefaults.specs.Walk.{starts_of}
use Rattle.gv_usedefaults.proofs.walk.starts_of.Given as goal

abbrev pub invariant-loop-profile : goal.invariant-loop-profile
invariant-loop-profile l = l.starts ++ starts_of (drop l.profile-index l.profiles) ≡ starts_of l.profiles
