use Rattle.std.proofs.Common.{ap, length, arith}
use Rattle.gv_cert.specs.Known.{KnownRecord}
use Rattle.gv_cert.proofs.Files.{record_long}
use Rattle.gv_cert.proofs.file.read_records.Goals as goal

pub loop-query-smaller : goal.loop-query-smaller
loop-query-smaller c =
    let r : KnownRecord = record { query = c.in-Some.query.now; answer = c.in-Some.answer.now } in
    omega (arith, ap length c.in-Some.ensures.1, record_long r c.record.new.self)
