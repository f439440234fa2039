use Rattle.std.proofs.Common.{◌≡◌, ◌∙◌, ◌*◌, false, length, ap, refl}
use Rattle.std.proofs.lemmas.List.{length-replicate}
use Rattle.gv_refute.proofs.StepLemmas.{refused_at, passed_at}
use Rattle.gv_refute.proofs.checker.check.Goals as goal

pub returns-then-not-step_follows-clause-judges : goal.returns-then-not-step_follows-clause-judges
returns-then-not-step_follows-clause-judges c =
    let v = 2 * c.args.clauses.now.variables in
    let n : length c.loop-i.marks ≡ 2 * c.args.clauses.now.variables = ap length (c.loop-i.invariant.marks ∙ c.requires) ∙ length-replicate (2 * c.args.clauses.now.variables) false in
    refused_at (2 * c.args.clauses.now.variables) (length c.loop-i.marks) c.args.clauses.now.clauses c.args.clauses.now.clauses c.args.log.now c.items-steps.result.now c.loop-i.i n
    refl c.items-steps.ensures.items c.loop-i-test.true c.if-not-step_follows.ensures.follows c.loop-i.invariant.refused

pub loop-i-preserved : goal.loop-i-preserved
loop-i-preserved c =
    let n : length c.loop-i.marks ≡ 2 * c.args.clauses.now.variables = ap length (c.loop-i.invariant.marks ∙ c.requires) ∙ length-replicate (2 * c.args.clauses.now.variables) false in
    record {
      refused = passed_at (2 * c.args.clauses.now.variables) (length c.loop-i.marks) c.args.clauses.now.clauses c.args.clauses.now.clauses c.args.log.now c.items-steps.result.now c.loop-i.i n
          refl c.items-steps.ensures.items c.loop-i-test.true c.if-not-step_follows.ensures.follows c.loop-i.invariant.refused;
      marks = c.if-not-step_follows.ensures.clean ∙ c.loop-i.invariant.marks;
    }
