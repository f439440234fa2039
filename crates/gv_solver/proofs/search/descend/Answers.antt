use Rattle.std.proofs.Common.{◌+◌, arith}
use Rattle.gv_solver.proofs.Late.{began_settled}
use Rattle.gv_solver.proofs.Down.{search_settle, searched, ready_same}
use Rattle.gv_solver.proofs.search.descend.Goals as goal

pub returns-in-Conflict-clause-ready : goal.returns-in-Conflict-clause-ready
returns-in-Conflict-clause-ready c = ready_same c.args.clauses.now c.args.inputs c.args.trail.now c.settle.new.trail c.requires.ready c.settle.ensures.over

pub returns-in-Conflict-clause-searched : goal.returns-in-Conflict-clause-searched
returns-in-Conflict-clause-searched c =
    searched c.args.clauses.now.clauses c.args.from c.args.inputs c.settle.new.trail c.requires.within
    (search_settle c.args.clauses.now c.args.from c.args.trail.now c.settle.new.trail c.settle.result c.requires.resumed.search c.settle.ensures)

pub returns-in-Conflict-clause-began : goal.returns-in-Conflict-clause-began
returns-in-Conflict-clause-began c = rw c.in-Conflict.is at (began_settled c.args.clauses.now c.args.trail.now c.settle.new.trail c.settle.result c.requires.resumed.open_ c.settle.ensures)

pub loop-input-init : goal.loop-input-init
loop-input-init c = record {
  ready = ready_same c.args.clauses.now c.args.inputs c.args.trail.now c.settle.new.trail c.requires.ready c.settle.ensures.over;
  search = search_settle c.args.clauses.now c.args.from c.args.trail.now c.settle.new.trail c.settle.result c.requires.resumed.search c.settle.ensures;
  quiet = c.in_default.ensures.told;
}

pub returns-in-Conflict-step_down-clause-searched : goal.returns-in-Conflict-step_down-clause-searched
returns-in-Conflict-step_down-clause-searched c = searched c.args.clauses.now.clauses (c.loop-input.input + 1) c.args.inputs c.step_down.new.trail (omega (arith, c.loop-input-test.true)) c.step_down.ensures.search
