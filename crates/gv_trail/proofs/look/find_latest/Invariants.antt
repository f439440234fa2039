use Rattle.std.specs.Prelude.{IfSome}
use Rattle.gv_trail.specs.Look.{IsOther}
use Rattle.gv_trail.proofs.look.find_latest.Given as goal

abbrev pub invariant-loop-lit : goal.invariant-loop-lit
invariant-loop-lit l = IfSome l.latest (IsOther l.but l.lits)
