use Rattle.std.proofs.Common.{◌≡◌, drop}
use Rattle.std.specs.List.{list_any}
use Rattle.gv_visible.specs.NamedPkgs.{matches_at}
use Rattle.gv_visible.proofs.named_pkgs.some_match.Given as goal

abbrev pub invariant-loop-place : goal.invariant-loop-place
invariant-loop-place l = list_any (matches_at l.atom l.pkgs) (drop l.place-index l.places) ≡ list_any (matches_at l.atom l.pkgs) l.places
