use Rattle.gv_cert.specs.Claim.{log_of}
use Rattle.gv_cert.proofs.Naming.{sized_named}
use Rattle.gv_cert.proofs.migrating.turned.Goals as goal

pub write_answer-requires : goal.write_answer-requires
write_answer-requires c =
    let read = rw c.in-Some-2.is at c.in_ok-claim.ensures in
    sized_named c.clause_count-clauses.result (log_of c.in-Some-2.claim) read.0.sized
