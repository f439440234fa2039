use Rattle.std.proofs.Common.{◌≡◌, ◌++◌, drop, map}
use Rattle.gv_load.specs.Notes.{error_report}
use Rattle.gv_load.proofs.notes.add_errors.Given as goal

abbrev pub invariant-loop-error : goal.invariant-loop-error
invariant-loop-error l = l.reports ++ map (error_report l.subject) (drop l.error-index l.errors) ≡ l.fn.reports ++ map (error_report l.subject) l.errors
