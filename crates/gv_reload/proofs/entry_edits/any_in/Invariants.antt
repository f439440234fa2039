use Rattle.std.proofs.Common.{◌≡◌, drop}
use Rattle.gv_reload.specs.EntryEdits.{is_edited_in}
use Rattle.gv_reload.proofs.entry_edits.any_in.Given as goal

abbrev pub invariant-loop-path : goal.invariant-loop-path
invariant-loop-path l = is_edited_in (drop l.path-index l.paths) l.category ≡ is_edited_in l.paths l.category
