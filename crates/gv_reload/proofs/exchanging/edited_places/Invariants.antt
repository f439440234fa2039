use Rattle.std.proofs.Common.{◌≡◌, ◌++◌, drop}
use Rattle.gv_facts.specs.Places.{places_from}
use Rattle.gv_reload.specs.EntryEdits.{is_edited_pkg}
use Rattle.gv_reload.specs.Exchanged.{edited_places}
use Rattle.gv_reload.proofs.exchanging.edited_places.Given as goal

-- those so far, with those that come, are all
abbrev pub invariant-loop-pkg : goal.invariant-loop-pkg
invariant-loop-pkg l = record {
  at : l.place ≡ l.pkg-index;
  places : l.places.items ++ places_from l.place (is_edited_pkg l.edits) (drop l.pkg-index l.pkgs) ≡ edited_places l.edits l.pkgs;
}
