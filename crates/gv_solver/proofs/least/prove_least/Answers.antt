use Rattle.std.proofs.Common.{◌≡◌, ◌∙◌, ap}
use Rattle.gv_logic.specs.Logs.{set_clause, least_set}
use Rattle.gv_solver.proofs.Forced.{rising_least, proved_more, proved_none}
use Rattle.gv_solver.proofs.least.prove_least.Goals as goal

pub loop-input-init : goal.loop-input-init
loop-input-init c = record { ready = c.requires.ready; proves = proved_none c.args.clauses.now c.args.bits.now c.args.log.now }

pub refute-requires-clause-rising : goal.refute-requires-clause-rising
refute-requires-clause-rising c = rw (c.deref.ensures.value, c.in_ok-set.ensures) (rising_least c.loop-input.input c.args.inputs c.args.bits.now c.loop-input-test.true)

pub loop-input-preserved : goal.loop-input-preserved
loop-input-preserved c =
    let clause : c.in_ok-step.step.clause ≡ set_clause (least_set c.args.bits.now c.loop-input.input) = c.in_ok-step.ensures.clause ∙ ap set_clause (c.deref.ensures.value ∙ c.in_ok-set.ensures) in
    record {
      ready = c.refute.ensures.ready;
      proves = proved_more c.args.clauses.now c.args.bits.now c.loop-input.input c.args.log.now c.loop-input.log c.add.new.self c.in_ok-step.step c.loop-input.invariant.proves c.in_ok-add.ensures.ok clause c.in_ok-step.ensures.step_follows;
    }
