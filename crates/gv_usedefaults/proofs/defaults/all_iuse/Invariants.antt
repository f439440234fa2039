use Rattle.std.proofs.Common.{◌≡◌, ◌++◌, drop}
use Rattle.std.specs.Prelude.{flat_map}
use Rattle.gv_usedefaults.proofs.defaults.all_iuse.Given as goal

abbrev pub invariant-loop-pkg : goal.invariant-loop-pkg
invariant-loop-pkg l = l.flags ++ flat_map (λ p. p.iuse) (drop l.pkg-index l.pkgs) ≡ flat_map (λ p. p.iuse) l.pkgs
