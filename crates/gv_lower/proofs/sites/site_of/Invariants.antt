use Rattle.std.proofs.Common.{◌≡◌, ◌++◌, drop, map, filter}
use Rattle.gv_lower.specs.Sites.{place_site}
use Rattle.gv_visible.specs.NamedPkgs.{matches_at}
use Rattle.gv_lower.proofs.sites.site_of.Given as goal

abbrev pub invariant-loop-place : goal.invariant-loop-place
invariant-loop-place l = l.places.items ++ map (place_site l.ruled l.pkgs l.items) (filter (matches_at l.atom l.pkgs) (drop l.place-index l.place-items))
    ≡ map (place_site l.ruled l.pkgs l.items) (filter (matches_at l.atom l.pkgs) l.place-items)
