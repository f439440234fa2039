use Rattle.std.proofs.Common.{◌≡◌, ◌-◌, ◌≤◌, ◌<◌, ◌/◌, refl, get_or}
use Rattle.gv_trail.specs.Cause.{cause_at}
use Rattle.gv_trail.proofs.Back.{left_all, left_less, left_end, read_last}
use Rattle.gv_trail.proofs.cause.take_back.Goals as goal

pub loop-left-init : goal.loop-left-init
loop-left-init c = left_all c.args.causes.now c.args.lits.now c.args.level c.args.on.now.items _ refl c.requires.marked c.requires.fresh c.requires.levels

pub loop-left-preserved : goal.loop-left-preserved
loop-left-preserved c =
    let lit : c.index-lits-left.result ≡ get_or c.args.lits.now (c.loop-left.left - 1) 0 = read_last c.args.lits.now c.loop-left.left c.index-lits-left.result c.loop-left-test.true c.loop-left.invariant.few c.index-lits-left.is in
    let above : c.args.level < (cause_at c.args.causes.now (c.index-lits-left.result / 2)).level = rw c.cause_of.ensures at c.if-cause_of-level.false in
    rw (c.unmark.ensures, lit)
    (left_less c.args.causes.now c.args.lits.now c.args.level c.loop-left.on.items c.loop-left.left c.loop-left-test.true (rw lit at above) c.loop-left.invariant)

pub returns-then-cause_of-level-clause-left : goal.returns-then-cause_of-level-clause-left
returns-then-cause_of-level-clause-left c =
    let lit : c.index-lits-left.result ≡ get_or c.args.lits.now (c.loop-left.left - 1) 0 = read_last c.args.lits.now c.loop-left.left c.index-lits-left.result c.loop-left-test.true c.loop-left.invariant.few c.index-lits-left.is in
    let below : (cause_at c.args.causes.now (c.index-lits-left.result / 2)).level ≤ c.args.level = rw c.cause_of.ensures at c.if-cause_of-level.true in
    left_end c.args.causes.now c.args.lits.now c.args.level c.loop-left.on.items c.loop-left.left c.loop-left-test.true (rw lit at below) c.loop-left.invariant
