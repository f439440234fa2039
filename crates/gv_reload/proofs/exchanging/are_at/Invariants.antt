use Rattle.std.proofs.Common.{◌≡◌, drop}
use Rattle.std.specs.Prelude.{filter}
use Rattle.gv_reload.specs.EntryEdits.{is_edited_pkg}
use Rattle.gv_reload.specs.Exchanged.{are_at}
use Rattle.gv_reload.proofs.exchanging.are_at.Given as goal

abbrev pub invariant-loop-pkg : goal.invariant-loop-pkg
invariant-loop-pkg l =
    are_at l.pkgs l.left (filter (is_edited_pkg l.edits) (drop l.pkg-index l.others)) ≡ are_at l.pkgs l.places (filter (is_edited_pkg l.edits) l.others)
