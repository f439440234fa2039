-- What a verdict says of a log.
use Rattle.std.specs.Prelude.{◌≡◌, ◌*◌, List, Some}
use Rattle.gv_logic.specs.Formulas.{Formula}
use Rattle.gv_logic.specs.Logs.{Step, first_refused, IsValid}
use Rattle.gv_refute.specs.declared.checker.Verdict.{Verdict}
use Rattle.gv_refute.specs.declared.checker.Verdict.TheVariants.{Accepted, Refused}

-- the log is valid, or this step is the first that doesn't follow
abbrev pub Judges : Formula → List Step → Verdict → Type 0
Judges f log Accepted = IsValid f log
Judges f log (Refused k) = first_refused (2 * f.variables) f.clauses log 0 ≡ Some k
