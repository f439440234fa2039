use Rattle.std.proofs.Common.{◌≡◌, ◌++◌, drop}
use Rattle.gv_usedefaults.proofs.defaults.add_iuse.Given as goal

abbrev pub invariant-loop-flag : goal.invariant-loop-flag
invariant-loop-flag l = l.flags ++ drop l.flag-index l.pkg.iuse ≡ l.fn.flags ++ l.pkg.iuse
