use Rattle.std.proofs.Common.{arith}
use Rattle.gv_cert.proofs.Shorts.{number_long, number_none, number_read}
use Rattle.gv_cert.proofs.reader.Reader.short_number.Goals as goal

pub returns-in_default : goal.returns-in_default
returns-in_default c = number_none c.args.self.now c.short.new.self c.in_default.ensures

pub returns-then-number : goal.returns-then-number
returns-then-number c = number_long c.args.self.now c.short.new.self c.in-Some.number c.in-Some.ensures (omega (arith, c.if-number.true))

pub returns : goal.returns
returns c = number_read c.args.self.now c.short.new.self c.in-Some.number c.in-Some.ensures (omega (arith, c.if-number.false))
