use Rattle.gv_trail.proofs.trail.Trail.is_lasting.Given as goal

abbrev pub invariant-loop-lit : goal.invariant-loop-lit
invariant-loop-lit l = Unit {0}
