use Rattle.std.proofs.Common.{◌≤◌, ◌*◌, length}
use Rattle.gv_solver.specs.declared.rounds.Round.TheVariants.{Model, Empty, Full}
use Rattle.gv_solver.specs.Rounds.{Rounds}
use Rattle.gv_solver.specs.Work.{IsWork}
use Rattle.gv_solver.proofs.Ends.{least_model, spent, refuted}
use Rattle.gv_solver.proofs.solver.learn.Goals as goal

pub returns-in-Full : goal.returns-in-Full
returns-in-Full c =
    let r : Rounds c.args.clauses.now c.args.inputs c.args.budget c.rounds.work c.one_round.new.work c.one_round.new.trail Full = rw c.in-Full.is at (c.in_ok-next.ensures.round c.args.clauses.now c.rounds.invariant.work) in
    let w : IsWork c.args.clauses.now c.args.inputs c.one_round.new.work = rw r.0 c.rounds.invariant.work in
    let le : length c.one_round.new.work.sets ≤ c.args.budget = rw r.0 c.rounds.invariant.sets in
    let long : length c.one_round.new.work.log ≤ 2 * length c.one_round.new.work.sets = rw r.0 c.rounds.invariant.steps in
    spent c.args.clauses.now c.args.inputs c.args.budget c.one_round.new.work w long le r.1

pub returns-in-Empty : goal.returns-in-Empty
returns-in-Empty c =
    let r : Rounds c.args.clauses.now c.args.inputs c.args.budget c.rounds.work c.one_round.new.work c.one_round.new.trail Empty = rw c.in-Empty.is at (c.in_ok-next.ensures.round c.args.clauses.now c.rounds.invariant.work) in
    refuted c.args.clauses.now c.args.inputs c.args.budget c.rounds.work c.one_round.new.work c.rounds.invariant.work c.rounds.invariant.steps c.rounds.invariant.sets r

pub least_bits-requires-clause-model : goal.least_bits-requires-clause-model
least_bits-requires-clause-model c =
    let r : Rounds c.args.clauses.now c.args.inputs c.args.budget c.rounds.work c.one_round.new.work c.one_round.new.trail Model = rw c.in-Model.is at (c.in_ok-next.ensures.round c.args.clauses.now c.rounds.invariant.work) in
    r.1

pub returns-in-Model : goal.returns-in-Model
returns-in-Model c =
    let r : Rounds c.args.clauses.now c.args.inputs c.args.budget c.rounds.work c.one_round.new.work c.one_round.new.trail Model = rw c.in-Model.is at (c.in_ok-next.ensures.round c.args.clauses.now c.rounds.invariant.work) in
    let w : IsWork c.args.clauses.now c.args.inputs c.one_round.new.work = rw r.0 c.rounds.invariant.work in
    let le : length c.one_round.new.work.sets ≤ c.args.budget = rw r.0 c.rounds.invariant.sets in
    let long : length c.one_round.new.work.log ≤ 2 * length c.one_round.new.work.sets = rw r.0 c.rounds.invariant.steps in
    least_model c.args.clauses.now c.args.inputs c.args.budget c.one_round.new.work c.one_round.new.trail c.in_ok-bits-in-Model.bits c.least_bits.new.log w long le c.in_ok-next.ensures.ready.over r.1 c.in_ok-bits-in-Model.ensures
