use Rattle.std.proofs.Common.{◌≡◌, length, not}
use Rattle.std.specs.List.{list_any}
use Rattle.gv_reload.specs.EntryEdits.{is_in_metadata}
use Rattle.gv_session.specs.Small.{AreUpTo}
use Rattle.gv_session.proofs.small.small_edits.Given as goal

abbrev pub invariant-loop-place : goal.invariant-loop-place
invariant-loop-place l = record {
  apart : l.apart ≡ not (list_any is_in_metadata l.folders.directories);
  up : AreUpTo l.folders l.edits l.fn.seen l.place l.entries;
  end : l.place-end ≡ length l.edits;
}
