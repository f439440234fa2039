use Rattle.std.proofs.Common.{ap, length, arith}
use Rattle.gv_cert.specs.Known.{KnownRecord}
use Rattle.gv_cert.proofs.Files.{one_first, record_long}
use Rattle.gv_cert.proofs.file.read_first.Goals as goal

pub loop-query-smaller : goal.loop-query-smaller
loop-query-smaller c =
    let r : KnownRecord = record { query = c.in-Some.query.now; answer = c.in-Some.answer.now } in
    omega (arith, ap length c.in-Some.ensures.1, record_long r c.record.new.self)

pub loop-query-preserved : goal.loop-query-preserved
loop-query-preserved c =
    let r : KnownRecord = record { query = c.in-Some.query.now; answer = c.in-Some.answer.now } in
    one_first c.new-reader.result c.loop-query.known c.take_turned.new.known c.loop-query.reader c.record.new.self r c.loop-query.invariant c.in-Some.ensures c.in_ok-take_turned.ensures
