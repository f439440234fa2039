use Rattle.std.proofs.Common.{◌≡◌, ◌++◌, drop}
use Rattle.std.specs.Prelude.{flat_map}
use Rattle.gv_visible.specs.Candidates.{level_of, pkgs_of}
use Rattle.gv_lower.specs.KeysAround.{Begins, place_key}
use Rattle.gv_lower.proofs.keys.add_atom.Given as goal

abbrev pub invariant-loop-place : goal.invariant-loop-place
invariant-loop-place g l = record {
  added : l.key.items ++ flat_map (place_key l.states (level_of l.candidates) (pkgs_of l.candidates)) (drop l.place-index l.site)
      ≡ l.initial.key.items ++ flat_map (place_key l.states (level_of l.candidates) (pkgs_of l.candidates)) l.site;
  begins : Begins l.initial.key.items l.key.items;
}
