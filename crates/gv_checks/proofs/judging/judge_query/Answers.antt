use Rattle.std.proofs.Common.{refl, sym, subst, ◌++◌, ◌∷◌}
use Rattle.gv_plain.specs.Context.{case_of}
use Rattle.gv_checks.specs.Queries.{gates_of, query_of}
use Rattle.gv_checks.specs.Progress.{Stops}
use Rattle.gv_checks.specs.Shared.{IsLoweredAs}
use Rattle.gv_checks.proofs.CountLemmas.{judged_once, lowered_once}
use Rattle.gv_checks.proofs.JudgeLemmas.{query_judged, query_refused, some_used}
use Rattle.gv_checks.proofs.SharedLemmas.{answered_at, at_kept, noted_at, ready_grow}
use Rattle.gv_checks.proofs.judging.judge_query.Goals as goal

pub returns-in-Err-clause-judges : goal.returns-in-Err-clause-judges
returns-in-Err-clause-judges g c = query_refused c.args.errand.now.asking.now.budget c.args.errand.now.asking.now.given.now (query_of (case_of c.args.spot.now.judged) c.args.class) c.args.progress.now c.args.steps.now c.in-Err.fault
    (c.in-Err.ensures.refused c.args.errand.now.asking.now.budget c.args.errand.now.asking.now.given.now)

pub judge_kept-requires-clause-used : goal.judge_kept-requires-clause-used
judge_kept-requires-clause-used g c = some_used c.args.errand.now.asking.now.budget c.args.errand.now.asking.now.given.now c.args.progress.now c.args.steps.now c.place_query.new.steps c.requires.somewhere c.place_query.ensures.steps

pub returns-clause-judges : goal.returns-clause-judges
returns-clause-judges g c =
    let kept : IsLoweredAs (query_of (case_of c.args.spot.now.judged) c.args.class) c.index-kept.result.now =
    at_kept (query_of (case_of c.args.spot.now.judged) c.args.class) c.place_query.new.shared.queries.items c.in-Ok.at c.index-kept.result.now c.in-Ok.ensures.at c.index-kept.ensures in
    query_judged c.args.errand.now.asking.now.budget c.args.errand.now.asking.now.given.now (query_of (case_of c.args.spot.now.judged) c.args.class) (gates_of (query_of (case_of c.args.spot.now.judged) c.args.class)) c.args.progress.now c.judge_kept.new.progress
    c.args.steps.now c.place_query.new.steps c.judge_kept.new.steps refl c.in-Ok-judge_kept.ensures.answers.2 kept.within c.place_query.ensures.steps c.in-Ok-judge_kept.ensures.answers.0 c.in-Ok-judge_kept.ensures.answers.1
    c.in-Ok-judge_kept.ensures.answers.3 c.in-Ok-judge_kept.ensures.answers.4

pub judge_kept-requires-clause-noted : goal.judge_kept-requires-clause-noted
judge_kept-requires-clause-noted g c =
    noted_at c.args.progress.now.used.certs c.place_query.new.shared.queries.items c.in-Ok.at c.index-kept.result.now c.in-Ok.ensures.at.0 c.index-kept.ensures
    (c.in-Ok.ensures.noted c.args.progress.now.used.certs c.requires.shared.noted)

pub returns-clause-shared : goal.returns-clause-shared
returns-clause-shared g c =
    c.note.ensures.notes c.args.spot.now.judged c.judge_kept.new.progress.used.certs
    (ready_grow c.args.spot.now.judged c.args.progress.now.used.certs c.judge_kept.new.progress.used.certs c.place_query.new.shared c.in-Ok-judge_kept.ensures.answers.5 c.in-Ok.ensures.here
    (c.in-Ok.ensures.noted c.args.progress.now.used.certs c.requires.shared.noted))
    (answered_at (query_of (case_of c.args.spot.now.judged) c.args.class) c.judge_kept.new.progress.used.certs c.place_query.new.shared.queries.items c.in-Ok.at c.in-Ok-judge_kept.place c.in-Ok.ensures.at c.in-Ok-judge_kept.ensures.answers.6)

pub returns-in-Err-judge_kept-clause-judges : goal.returns-in-Err-judge_kept-clause-judges
returns-in-Err-judge_kept-clause-judges g c start done rest at =
    subst (λ n. Stops c.args.errand.now.asking.now.budget c.args.errand.now.asking.now.given.now (done ++ query_of (case_of c.args.spot.now.judged) c.args.class ∷ rest) n c.in-Err-judge_kept.fault)
    (sym c.in-Err-judge_kept.ensures.answers.1)
    (query_refused c.args.errand.now.asking.now.budget c.args.errand.now.asking.now.given.now (query_of (case_of c.args.spot.now.judged) c.args.class) c.args.progress.now c.args.steps.now c.in-Err-judge_kept.fault
    c.in-Err-judge_kept.ensures.answers.0 start done rest at)

pub returns-in-Err-clause-few : goal.returns-in-Err-clause-few
returns-in-Err-clause-few g c = lowered_once c.args.steps.now c.place_query.new.steps c.place_query.ensures.steps

pub returns-in-Err-judge_kept-clause-few : goal.returns-in-Err-judge_kept-clause-few
returns-in-Err-judge_kept-clause-few g c = judged_once c.args.steps.now c.place_query.new.steps c.judge_kept.new.steps c.place_query.ensures.steps c.judge_kept.ensures.few

pub returns-clause-few : goal.returns-clause-few
returns-clause-few g c = judged_once c.args.steps.now c.place_query.new.steps c.judge_kept.new.steps c.place_query.ensures.steps c.judge_kept.ensures.few
