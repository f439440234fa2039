use Rattle.std.proofs.Common.{◌≡◌, drop}
use Rattle.std.specs.List.{list_any}
use Rattle.gv_visible.specs.MaskIndex.{matches_at}
use Rattle.gv_visible.proofs.visibility.some_matches.Given as goal

abbrev pub invariant-loop-place : goal.invariant-loop-place
invariant-loop-place l = list_any (matches_at l.pkg l.masks) (drop l.place-index l.places) ≡ list_any (matches_at l.pkg l.masks) l.places
