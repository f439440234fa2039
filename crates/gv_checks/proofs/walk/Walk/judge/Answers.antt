use Rattle.std.proofs.Common.{[], refl, subst, append-nil}
use Rattle.gv_checks.specs.Chosen.{chosen}
use Rattle.gv_checks.specs.Progress.{Stops}
use Rattle.gv_checks.specs.Queries.{queries}
use Rattle.gv_checks.proofs.AllLemmas.{answers, begins, outset, some_begin}
use Rattle.gv_checks.proofs.walk.Walk.judge.Goals as goal

pub judge_all-requires : goal.judge_all-requires
judge_all-requires g c = record {
  somewhere = some_begin c.args.asking.now.budget c.args.asking.now.given.now c.args.steps.now [] (record { used = c.new.result; reports = c.new-2.result; queries = 0 })
      (begins c.args.asking.now.budget c.args.asking.now.given.now c.args.steps.now [] (record { used = c.new.result; reports = c.new-2.result; queries = 0 }) c.new.ensures.certs c.new.ensures.found c.new-2.ensures refl);
}

pub returns-in-Err-clause-stopped : goal.returns-in-Err-clause-stopped
returns-in-Err-clause-stopped g c =
    subst (λ l. Stops c.args.asking.now.budget c.args.asking.now.given.now l c.judge_all.new.going.progress.queries c.in-Err.fault)
    (append-nil (chosen c.args.asking.now.chosen (queries c.args.self.now.options c.args.self.now.repo)))
    (c.in-Err.ensures.goes.judges (outset c.args.steps.now []) [] []
    (begins c.args.asking.now.budget c.args.asking.now.given.now c.args.steps.now [] (record { used = c.new.result; reports = c.new-2.result; queries = 0 }) c.new.ensures.certs c.new.ensures.found c.new-2.ensures refl))

pub returns-clause-answers : goal.returns-clause-answers
returns-clause-answers g c =
    answers c.args.asking.now.budget c.args.asking.now.given.now (chosen c.args.asking.now.chosen (queries c.args.self.now.options c.args.self.now.repo)) c.args.steps.now c.judge_all.new.steps c.judge_all.new.going.progress _
    (c.in-Ok.ensures.goes.judges (outset c.args.steps.now []) []
    (begins c.args.asking.now.budget c.args.asking.now.given.now c.args.steps.now [] (record { used = c.new.result; reports = c.new-2.result; queries = 0 }) c.new.ensures.certs c.new.ensures.found c.new-2.ensures refl))
    refl refl refl

pub returns-in-Err-clause-few : goal.returns-in-Err-clause-few
returns-in-Err-clause-few g c = c.in-Err.ensures.goes.few

pub returns-clause-few : goal.returns-clause-few
returns-clause-few g c = c.in-Ok.ensures.goes.few
