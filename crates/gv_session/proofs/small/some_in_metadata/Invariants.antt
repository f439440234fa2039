use Rattle.std.proofs.Common.{◌≡◌, drop}
use Rattle.std.specs.List.{list_any}
use Rattle.gv_reload.specs.EntryEdits.{is_in_metadata}
use Rattle.gv_session.proofs.small.some_in_metadata.Given as goal

abbrev pub invariant-loop-directory : goal.invariant-loop-directory
invariant-loop-directory l = list_any is_in_metadata (drop l.directory-index l.directories) ≡ list_any is_in_metadata l.directories
