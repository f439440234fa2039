use Rattle.std.proofs.Common.{drop}
use Rattle.gv_plain.specs.Cases.{members_from}
use Rattle.gv_renew.specs.Touched.{IsSoFar}
use Rattle.gv_renew.proofs.touched.touched_among.Given as goal

abbrev pub invariant-loop-i : goal.invariant-loop-i
invariant-loop-i l = IsSoFar l.edits l.pkgs l.bodies (members_from l.i (drop l.i l.pkgs) (drop l.i l.bodies)) l.touched.items
