use Rattle.std.proofs.Common.{◌≡◌, ◌+◌, nat_lt, [], ◌∷◌, ap, sym, subst, ◌∙◌}
use Rattle.std.specs.Prelude.{filter}
use Rattle.std.specs.List.{find}
use Rattle.std.specs.Option.{option_map_or}
use Rattle.std.specs.List.Sorted.{IsPartitionedBy}
use Rattle.gv_facts.specs.Places.{is_pkg_of, places_of}
use Rattle.gv_visible.specs.VisiblePkgs.{is_from, shows}
use Rattle.gv_visible.specs.Candidates.{level_of, pkgs_of, profile_of}
use Rattle.gv_visible.proofs.NextPlaces.{below_first, found, rest}
use Rattle.gv_visible.proofs.candidates.Candidates.next.Goals as goal

pub places_from-rest-requires : goal.places_from-rest-requires
places_from-rest-requires g c =
    subst (IsPartitionedBy (λ n. nat_lt n c.args.from)) (sym c.at-places.ensures)
    (below_first (is_pkg_of c.bytes.result.now c.bytes-2.result.now) (pkgs_of c.args.self.now) c.args.from)

pub returns : goal.returns
returns g c =
    let shown = places_of (shows (profile_of c.args.self.now) (level_of c.args.self.now) c.args.atom.now) (pkgs_of c.args.self.now) in
    let first : c.first_shown.result ≡ find (is_from c.args.from) shown =
    rw (c.first_shown.ensures, c.places_from-rest.ensures, c.at-places.ensures, c.bytes.ensures, c.bytes-2.ensures)
    (found (profile_of c.args.self.now) (level_of c.args.self.now) c.args.atom.now (pkgs_of c.args.self.now) c.args.from) in
    record {
      first = first;
      all = rest (shows (profile_of c.args.self.now) (level_of c.args.self.now) c.args.atom.now) c.args.from (pkgs_of c.args.self.now)
          ∙ ap (λ o. option_map_or (λ n. n ∷ filter (is_from (n + 1)) shown) o []) (sym first);
    }
