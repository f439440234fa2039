use Rattle.std.proofs.Common.{◌≡◌, ◌++◌, length, map}
use Rattle.gv_reload.specs.Interleaved.{ahead, left}
use Rattle.gv_load.specs.Repository.{body_of, member_cmp, pkg_of}
use Rattle.gv_reload.proofs.replacing.add_ahead.Given as goal

abbrev pub invariant-loop-next : goal.invariant-loop-next
invariant-loop-next l = record {
  pkgs : l.packages.pkgs ++ map pkg_of (ahead member_cmp l.member l.edited.keys) ≡ l.fn.packages.pkgs ++ map pkg_of (ahead member_cmp l.member l.fn.edited.keys);
  bodies : l.packages.bodies ++ map body_of (ahead member_cmp l.member l.edited.keys) ≡ l.fn.packages.bodies ++ map body_of (ahead member_cmp l.member l.fn.edited.keys);
  others : left member_cmp l.member l.edited.keys ≡ left member_cmp l.member l.fn.edited.keys;
}

abbrev pub decreases-loop-next : goal.decreases-loop-next
decreases-loop-next l = length l.edited.keys
