use Rattle.std.proofs.Common.{◌∷◌, ◌++◌, ◌+◌, ◌<◌, List, [], take, drop, length, refl, sym, ◌∙◌, ap, arith}
use Rattle.std.specs.List.{AllByRecursion}
use Rattle.std.proofs.lemmas.List.{drop_more, length-take-le, take_more}
use Rattle.gv_logic.specs.Logs.{Step}
use Rattle.gv_cert.specs.Claim.{step_form, IsSized}
use Rattle.gv_cert.specs.Numbers.{flat_from}
use Rattle.gv_cert.specs.declared.version.FileVersion.TheVariants.{Second}
use Rattle.gv_cert.proofs.Counted.{all_at, all_next, writes_next}
use Rattle.gv_cert.proofs.writing.put_steps.Goals as goal

pub put_step-requires-clause-named : goal.put_step-requires-clause-named
put_step-requires-clause-named c =
    let steps : List Step = c.args.steps.now in
    let step : Step = c.index-steps-t.result in
    all_at (λ names s. AllByRecursion (λ hint. hint < names) s.hints) c.args.clauses (c.args.clauses + c.loop-t.t) c.loop-t.t steps step refl
    (drop_more steps c.loop-t.t step (omega (arith, c.loop-t-test.true)) ∙ ap (λ s. s ∷ drop (c.loop-t.t + 1) steps) (sym c.index-steps-t.is)) c.requires.named

pub loop-t-preserved : goal.loop-t-preserved
loop-t-preserved c =
    let steps : List Step = c.args.steps.now in
    let step : Step = c.index-steps-t.result in
    let t = c.loop-t.t in
    let short : t < length steps = omega (arith, c.loop-t-test.true) in
    record {
      written = writes_next (step_form Second) c.args.clauses steps (c.args.bytes.now ++ flat_from (step_form Second) c.args.clauses steps) c.loop-t.bytes c.put_step.new.bytes t (c.args.clauses + t) step
          c.loop-t.invariant.written refl (drop_more steps t step short ∙ ap (λ s. s ∷ drop (t + 1) steps) (sym c.index-steps-t.is)) c.in_ok-put_step.ensures.written;
      sized = all_next IsSized c.args.clauses (c.args.clauses + t) (take t steps) (take (t + 1) steps) step (omega (arith, short, length-take-le t steps (omega (arith, short))))
          (take_more steps t step short ∙ ap (λ s. take t steps ++ s ∷ []) (sym c.index-steps-t.is)) c.loop-t.invariant.sized c.in_ok-put_step.ensures.sized;
    }
