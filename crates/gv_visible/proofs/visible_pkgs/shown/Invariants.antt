use Rattle.std.proofs.Common.{◌≡◌, ◌++◌, drop}
use Rattle.gv_facts.specs.declared.kinds.Level.TheVariants.{Stable, Testing}
use Rattle.gv_visible.specs.VisiblePkgs.{are_visible}
use Rattle.gv_visible.proofs.visible_pkgs.shown.Given as goal

abbrev pub invariant-loop-i : goal.invariant-loop-i
invariant-loop-i l =
    (l.stable ++ are_visible l.masks Stable (drop l.i l.pkgs) ≡ are_visible l.masks Stable l.pkgs)
    × (l.testing ++ are_visible l.masks Testing (drop l.i l.pkgs) ≡ are_visible l.masks Testing l.pkgs)
