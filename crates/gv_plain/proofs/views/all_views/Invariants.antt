use Rattle.std.proofs.Common.{◌≡◌, ◌++◌, drop, map}
use Rattle.gv_plain.specs.Seen.{seen}
use Rattle.gv_plain.proofs.views.all_views.Given as goal

abbrev pub invariant-loop-profile : goal.invariant-loop-profile
invariant-loop-profile l =
    (l.views.items ++ map (seen l.pkgs) (drop l.profile-index l.profiles) ≡ map (seen l.pkgs) l.profiles)
    × (l.accepted ≡ l.pkgs)
