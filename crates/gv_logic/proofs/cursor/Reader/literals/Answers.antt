use Rattle.std.proofs.Common.{arith}
use Rattle.gv_logic.proofs.Cancel.{none_short, none_large, numbers_more}
use Rattle.gv_logic.proofs.cursor.Reader.literals.Goals as goal

pub returns-in_default : goal.returns-in_default
returns-in_default c =
    none_short c.args.count c.args.bound c.args.self.now c.loop-n.lits c.loop-n.self (omega arith) (omega arith) c.loop-n.invariant.below c.loop-n.invariant.bytes c.in_default.ensures.number

pub returns-then-number-bound : goal.returns-then-number-bound
returns-then-number-bound c =
    none_large c.args.count c.args.bound c.args.self.now c.loop-n.lits c.loop-n.self (omega arith) (omega arith) c.loop-n.invariant.below c.loop-n.invariant.bytes
    c.in-Some.number c.number.new.self c.in-Some.ensures.fits c.if-number-bound.true c.in-Some.ensures.number

pub loop-n-preserved : goal.loop-n-preserved
loop-n-preserved c =
    numbers_more c.args.bound c.args.self.now c.loop-n.lits c.add.new.self c.loop-n.self c.number.new.self c.in-Some.number c.loop-n.n c.in_ok-add.ensures.ok
    c.loop-n.invariant.count c.loop-n.invariant.below c.loop-n.invariant.bytes c.if-number-bound.false c.in-Some.ensures.number
