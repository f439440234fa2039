use Rattle.gv_cert.proofs.Shorts.{named_past}
use Rattle.gv_cert.proofs.reader.Reader.hint_number.Goals as goal

pub returns-then-hint-names : goal.returns-then-hint-names
returns-then-hint-names c = named_past c.args.self.now c.four_bytes.new.self c.args.names c.in-Some.hint c.in-Some.ensures c.if-hint-names.true
