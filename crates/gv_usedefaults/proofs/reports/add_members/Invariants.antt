use Rattle.std.proofs.Common.{◌≡◌, ◌++◌, drop}
use Rattle.gv_usedefaults.specs.Reports.{told_among}
use Rattle.gv_usedefaults.proofs.reports.add_members.Given as goal

abbrev pub invariant-loop-i : goal.invariant-loop-i
invariant-loop-i l = l.reports ++ told_among l.profile l.defaults (drop l.i l.pkgs) (drop l.i l.bodies) ≡ l.fn.reports ++ told_among l.profile l.defaults l.pkgs l.bodies
