use Rattle.std.proofs.Common.{◌≡◌, ap, map, ◌∙◌}
use Rattle.std.specs.Prelude.{slice_get}
use Rattle.std.specs.List.{filter_map}
use Rattle.gv_facts.specs.Places.{is_pkg_of, places_of}
use Rattle.gv_visible.specs.VisiblePkgs.{shown_at}
use Rattle.gv_visible.specs.Candidates.{level_of, pkgs_of, profile_of}
use Rattle.gv_visible.proofs.Placed.{items_at, shown_there}
use Rattle.gv_visible.proofs.candidates.Candidates.places.Goals as goal

pub returns : goal.returns
returns g c =
    let pkgs = pkgs_of c.args.self.now in
    let atom = c.args.atom.now in
    let there : c.at.result.now ≡ places_of (is_pkg_of atom.category atom.name) pkgs = rw (c.bytes.ensures, c.bytes-2.ensures) at (c.at.ensures) in
    record {
      places = there;
      items = ap (map (slice_get pkgs)) there ∙ items_at (is_pkg_of atom.category atom.name) pkgs;
      shown = ap (filter_map (shown_at (profile_of c.args.self.now) (level_of c.args.self.now) atom pkgs)) there
          ∙ shown_there (profile_of c.args.self.now) (level_of c.args.self.now) atom pkgs;
    }
