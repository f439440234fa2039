use Rattle.std.proofs.Common.{◌≡◌, ◌++◌, drop}
use Rattle.std.specs.Prelude.{flat_map}
use Rattle.gv_plain.specs.Cases.{members_from}
use Rattle.gv_plain.specs.Plain.{told_member}
use Rattle.gv_plain.proofs.plainly.add_members.Given as goal

abbrev pub invariant-loop-i : goal.invariant-loop-i
invariant-loop-i l = l.reports ++ flat_map (told_member l.viewed.options l.viewed.repo) (members_from l.i (drop l.i l.pkgs) (drop l.i l.bodies))
    ≡ l.initial.reports ++ flat_map (told_member l.viewed.options l.viewed.repo) (members_from 0 l.pkgs l.bodies)
