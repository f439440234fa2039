use Rattle.std.proofs.Common.{◌<◌, ◌∙◌, sym, arith}
use Rattle.gv_solver.proofs.Retreat.{level_some, takes_back, has_few, same_level}
use Rattle.gv_solver.proofs.search.retreat.Goals as goal

pub overflow_mul-input : goal.overflow_mul-input
overflow_mul-input c =
    let few : c.args.input < c.args.inputs = has_few c.args.inputs _ c.args.input c.requires.searched.rising c.requires.decided in
    omega (arith, few, c.requires.ready.wide, c.requires.ready.few)

pub overflow_sub-level : goal.overflow_sub-level
overflow_sub-level c =
    let r = level_some c.args.inputs c.args.input c.args.trail.now c.args.clauses.now c.requires.ready.over c.requires.searched c.requires.decided in
    let same = same_level r.0 c.in-Some.level (sym r.1 ∙ sym c.in-Some.ensures) in
    omega (arith, r.2, same)

pub back_to-requires : goal.back_to-requires
back_to-requires c =
    let r = level_some c.args.inputs c.args.input c.args.trail.now c.args.clauses.now c.requires.ready.over c.requires.searched c.requires.decided in
    let same = same_level r.0 c.in-Some.level (sym r.1 ∙ sym c.in-Some.ensures) in
    omega (arith, r.3, same)

pub returns-in-Some-clause-back : goal.returns-in-Some-clause-back
returns-in-Some-clause-back c =
    takes_back c.args.clauses.now c.args.inputs c.args.input c.in-Some.level c.args.trail.now c.back_to.new.self c.requires.ready.over c.requires.searched c.requires.decided
    (sym c.in-Some.ensures) c.back_to.ensures.variables c.back_to.ensures.entries c.back_to.ensures.level

pub returns-in_default-clause-back : goal.returns-in_default-clause-back
returns-in_default-clause-back c =
    let r = level_some c.args.inputs c.args.input c.args.trail.now c.args.clauses.now c.requires.ready.over c.requires.searched c.requires.decided in
    absurd (c.in_default.not-Some r.0 (c.level_of.ensures ∙ r.1))
