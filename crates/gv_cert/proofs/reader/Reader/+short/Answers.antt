use Rattle.std.proofs.Common.{◌-◌, refl, arith}
use Rattle.gv_cert.proofs.Shorts.{last_read, short_bound, short_read}
use Rattle.gv_cert.proofs.reader.Reader.+short.Goals as goal

pub returns-then-byte-lt128 : goal.returns-then-byte-lt128
returns-then-byte-lt128 t c = last_read c.args.self.now c.byte.new.self c.in-Some.byte c.in-Some.ensures.byte c.args.more c.if-byte-lt128.true

pub overflow_mul-result : goal.overflow_mul-result
overflow_mul-result t c = omega (arith, short_bound (c.args.more - 1) c.in-Some-short.high (omega (arith, c.requires)) c.in-Some-short.ensures.0)

pub overflow_add-result : goal.overflow_add-result
overflow_add-result t c = omega (arith, c.in-Some.ensures.fits, short_bound (c.args.more - 1) c.in-Some-short.high (omega (arith, c.requires)) c.in-Some-short.ensures.0)

pub returns : goal.returns
returns t c =
    short_read c.args.self.now c.byte.new.self c.in-Some.byte c.in-Some.ensures.byte (omega (arith, c.if-byte-lt128.false)) c.args.more (omega (arith, c.if-more-eq0.false))
    c.in-Some-short.high _ c.short.new.self c.in-Some.ensures.fits c.in-Some-short.ensures (omega (arith, c.if-high-eq0.false)) refl
