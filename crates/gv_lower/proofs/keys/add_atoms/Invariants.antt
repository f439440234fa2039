use Rattle.std.proofs.Common.{◌≡◌, ◌++◌, drop}
use Rattle.std.specs.Prelude.{flat_map}
use Rattle.gv_visible.specs.Candidates.{level_of, pkgs_of}
use Rattle.gv_lower.specs.KeysAround.{Begins, site_key}
use Rattle.gv_lower.proofs.keys.add_atoms.Given as goal

abbrev pub invariant-loop-site : goal.invariant-loop-site
invariant-loop-site g l = record {
  added : l.key.items ++ flat_map (site_key l.states (level_of l.candidates) (pkgs_of l.candidates)) (drop l.site-index l.sites)
      ≡ l.initial.key.items ++ flat_map (site_key l.states (level_of l.candidates) (pkgs_of l.candidates)) l.sites;
  begins : Begins l.initial.key.items l.key.items;
}
