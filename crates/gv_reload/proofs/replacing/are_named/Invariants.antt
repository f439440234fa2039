use Rattle.std.proofs.Common.{◌≡◌, drop}
use Rattle.gv_reload.specs.Replacing.{are_named}
use Rattle.gv_reload.proofs.replacing.are_named.Given as goal

abbrev pub invariant-loop-pkg : goal.invariant-loop-pkg
invariant-loop-pkg l = are_named l.edits (drop l.pkg-index l.pkgs) ≡ are_named l.edits l.pkgs
