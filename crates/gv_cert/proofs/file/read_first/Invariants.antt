use Rattle.std.proofs.Common.{length}
use Rattle.gv_cert.proofs.Files.{TakenFirst}
use Rattle.gv_cert.proofs.file.read_first.Given as goal

abbrev pub invariant-loop-query : goal.invariant-loop-query
invariant-loop-query l = TakenFirst l.initial.reader l.known l.reader

abbrev pub decreases-loop-query : goal.decreases-loop-query
decreases-loop-query l = length l.reader
