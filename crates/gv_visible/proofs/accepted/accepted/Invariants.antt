use Rattle.std.proofs.Common.{◌≡◌, ◌++◌, drop}
use Rattle.gv_facts.specs.declared.kinds.Level.TheVariants.{Stable, Testing}
use Rattle.gv_visible.specs.Accepted.{are_accepted}
use Rattle.gv_visible.proofs.accepted.accepted.Given as goal

abbrev pub invariant-loop-pkg : goal.invariant-loop-pkg
invariant-loop-pkg l =
    (l.stable ++ are_accepted Stable l.profile.arch (drop l.pkg-index l.pkgs) ≡ are_accepted Stable l.profile.arch l.pkgs)
    × (l.testing ++ are_accepted Testing l.profile.arch (drop l.pkg-index l.pkgs) ≡ are_accepted Testing l.profile.arch l.pkgs)
