use Rattle.gv_cert.proofs.Shorts.{Rests}
use Rattle.gv_cert.proofs.writing.put_short.Given as goal

abbrev pub invariant-loop-rest : goal.invariant-loop-rest
invariant-loop-rest l = Rests l.initial.bytes l.n l.bytes l.rest

abbrev pub decreases-loop-rest : goal.decreases-loop-rest
decreases-loop-rest l = l.rest
