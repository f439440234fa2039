use Rattle.std.proofs.Common.{ap, refl, sym, ◌∙◌}
use Rattle.gv_plain.specs.Context.{case_of}
use Rattle.gv_checks.specs.Queries.{is_asked}
use Rattle.gv_checks.proofs.GoLemmas.{goes_chosen, goes_unasked, goes_unchosen}
use Rattle.gv_checks.proofs.walking.judge_class.Goals as goal

pub returns-then-not-is_asked-clause-goes : goal.returns-then-not-is_asked-clause-goes
returns-then-not-is_asked-clause-goes g c =
    goes_unasked c.args.errand.now.asking.now c.args.errand.now.walk.now.options (case_of c.args.spot.now.judged) c.args.class (ap (λ o. is_asked o (case_of c.args.spot.now.judged) c.args.class) (sym c.options.ensures) ∙ sym c.is_asked.ensures ∙ c.if-not-is_asked.true) c.args.going.now c.args.steps.now tt

pub returns-then-is_chosen-clause-goes : goal.returns-then-is_chosen-clause-goes
returns-then-is_chosen-clause-goes g c =
    goes_chosen c.args.errand.now.asking.now c.args.errand.now.walk.now.options (case_of c.args.spot.now.judged) c.args.class (ap (λ o. is_asked o (case_of c.args.spot.now.judged) c.args.class) (sym c.options.ensures) ∙ sym c.is_asked.ensures ∙ c.if-not-is_asked.false) c.args.going.now _ c.args.steps.now c.judge_query.new.steps c.judge_query.result
    (sym c.has-is_chosen.ensures ∙ c.if-is_chosen.true) c.in_ok-going.ensures c.judge_query.ensures.judges c.judge_query.ensures.unsolved c.judge_query.ensures.few

pub returns-clause-goes : goal.returns-clause-goes
returns-clause-goes g c =
    goes_unchosen c.args.errand.now.asking.now c.args.errand.now.walk.now.options (case_of c.args.spot.now.judged) c.args.class (ap (λ o. is_asked o (case_of c.args.spot.now.judged) c.args.class) (sym c.options.ensures) ∙ sym c.is_asked.ensures ∙ c.if-not-is_asked.false) c.args.going.now _ c.args.steps.now tt
    (sym c.has-is_chosen.ensures ∙ c.if-is_chosen.false) c.in_ok-going.ensures refl
