use Rattle.std.proofs.Common.{◌+◌, ◌*◌, ◌<◌, sym, arith}
use Rattle.gv_trail.specs.Entries.{assignment}
use Rattle.gv_solver.proofs.Down.{search_decide, search_settle, search_skip, ready_same}
use Rattle.gv_solver.proofs.Grow.{puts_one}
use Rattle.gv_solver.proofs.Late.{began_decided}
use Rattle.gv_solver.proofs.Looks.{look_assigned, look_free}
use Rattle.gv_solver.proofs.search.step_down.Goals as goal

pub returns-in-Some-clause-search : goal.returns-in-Some-clause-search
returns-in-Some-clause-search c =
    search_skip c.args.clauses.now.clauses c.args.input c.args.trail.now c.requires.search (look_assigned (assignment c.args.trail.now) c.args.input c.in-Some.field-0 (sym c.in-Some.ensures))

pub returns-in-None-clause-ready : goal.returns-in-None-clause-ready
returns-in-None-clause-ready c = ready_same c.args.clauses.now c.args.inputs c.args.trail.now c.settle.new.trail c.requires.ready c.settle.ensures.over

pub returns-in-None-clause-search : goal.returns-in-None-clause-search
returns-in-None-clause-search c =
    let lt : 2 * c.args.input + 1 < 2 * c.args.trail.now.variables = omega (arith, c.requires.below, c.requires.ready.wide, c.requires.ready.over.variables) in
    let free = look_free (assignment c.args.trail.now) c.args.input (sym c.in-None.ensures) in
    let one = puts_one c.args.trail.now c.decide.new.self c.args.input lt c.decide.ensures.variables c.decide.ensures.entries c.decide.ensures.over in
    search_settle c.args.clauses.now (c.args.input + 1) c.decide.new.self c.settle.new.trail c.settle.result
    (search_decide c.args.clauses.now c.args.input c.args.trail.now c.decide.new.self c.requires.search c.requires.ready.over c.requires.quiet free.0 free.1 c.decide.ensures.variables c.decide.ensures.entries one.0 one.1)
    c.settle.ensures

pub returns-in-None-clause-began : goal.returns-in-None-clause-began
returns-in-None-clause-began c = began_decided c.args.clauses.now c.args.trail.now c.decide.new.self c.settle.new.trail c.settle.result (2 * c.args.input + 1) c.requires.quiet c.decide.ensures.variables c.decide.ensures.entries c.decide.ensures.level c.settle.ensures
