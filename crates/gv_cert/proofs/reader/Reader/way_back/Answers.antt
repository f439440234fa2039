use Rattle.std.proofs.Common.{◌-◌, refl, arith}
use Rattle.gv_cert.proofs.Shorts.{hint_long, hint_none, hint_past, hint_read, hint_zero}
use Rattle.gv_cert.proofs.reader.Reader.way_back.Goals as goal
use Rattle.gv_cert.proofs.reader.Reader.way_back.Goals.{then-back-eq0-via-then-back-eq0, then-back-eq0-via-else-back-eq0+then-back-names}

pub returns-in_default : goal.returns-in_default
returns-in_default c = hint_none c.args.self.now c.short.new.self c.args.names c.requires c.in_default.ensures

pub returns-then-back-eq0 : goal.returns-then-back-eq0
returns-then-back-eq0 c =
    elim c.then-back-eq0.branch [
      | then-back-eq0-via-then-back-eq0 w ↦ hint_zero c.args.self.now c.short.new.self c.in-Some.back c.in-Some.ensures c.args.names (omega (arith, w.if-back-eq0))
      | then-back-eq0-via-else-back-eq0+then-back-names w ↦ hint_past c.args.self.now c.short.new.self c.in-Some.back c.in-Some.ensures c.args.names (omega (arith, w.if-back-names))
    ]

pub returns-then-hint : goal.returns-then-hint
returns-then-hint c =
    hint_long c.args.self.now c.short.new.self c.in-Some.back c.in-Some.ensures c.args.names (omega (arith, c.if-back-names.false)) (omega (arith, c.if-hint.true))

pub returns : goal.returns
returns c =
    hint_read c.args.self.now c.short.new.self c.in-Some.back c.in-Some.ensures c.args.names (c.args.names - c.in-Some.back) (omega (arith, c.if-back-eq0.false)) (omega (arith, c.if-back-names.false)) refl
    (omega (arith, c.if-hint.false))
