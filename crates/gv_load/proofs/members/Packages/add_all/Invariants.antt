use Rattle.std.proofs.Common.{◌≡◌, ◌++◌, length, map}
use Rattle.gv_load.specs.Repository.{body_of, pkg_of}
use Rattle.gv_load.proofs.members.Packages.add_all.Given as goal

abbrev pub invariant-loop-member : goal.invariant-loop-member
invariant-loop-member l = record {
  pkgs : l.self.pkgs ++ map pkg_of l.members.keys ≡ l.fn.self.pkgs ++ map pkg_of l.fn.members.keys;
  bodies : l.self.bodies ++ map body_of l.members.keys ≡ l.fn.self.bodies ++ map body_of l.fn.members.keys;
}

abbrev pub decreases-loop-member : goal.decreases-loop-member
decreases-loop-member l = length l.members.keys
