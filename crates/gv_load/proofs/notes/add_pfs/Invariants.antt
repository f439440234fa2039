use Rattle.std.proofs.Common.{◌≡◌, ◌++◌, drop}
use Rattle.std.specs.Prelude.{flat_map}
use Rattle.gv_load.specs.Notes.{pf_notes}
use Rattle.gv_load.proofs.notes.add_pfs.Given as goal

abbrev pub invariant-loop-kept : goal.invariant-loop-kept
invariant-loop-kept l = l.reports ++ flat_map pf_notes (drop l.kept-index l.kepts) ≡ l.fn.reports ++ flat_map pf_notes l.kepts
