use Rattle.std.proofs.Common.{length}
use Rattle.gv_cert.specs.File.{IsRecord, record_bytes}
use Rattle.gv_cert.proofs.Cancel.{Taken}
use Rattle.gv_cert.proofs.file.read_records.Given as goal

abbrev pub invariant-loop-query : goal.invariant-loop-query
invariant-loop-query l = Taken IsRecord record_bytes l.initial.reader l.known l.reader (length l.known)

abbrev pub decreases-loop-query : goal.decreases-loop-query
decreases-loop-query l = length l.reader
