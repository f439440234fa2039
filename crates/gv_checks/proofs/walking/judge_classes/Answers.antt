use Rattle.std.proofs.Common.{◌+◌, drop, rules, subst, sym, ◌∙◌}
use Rattle.gv_plain.specs.Context.{case_of}
use Rattle.gv_checks.specs.Keys.{ArePartsOf}
use Rattle.gv_checks.specs.Queries.{class_queries}
use Rattle.gv_checks.proofs.GoLemmas.{go_end, go_err, go_next}
use Rattle.gv_checks.proofs.WalkLemmas.{classes_here, classes_left}
use Rattle.gv_checks.proofs.walking.judge_classes.Goals as goal

pub judge_class-requires-clause-parts : goal.judge_class-requires-clause-parts
judge_class-requires-clause-parts g c = subst (ArePartsOf c.args.spot.now.judged c.args.spot.now.judged.profile.now c.args.spot.now.sites.now) (sym c.loop-class.invariant.required) c.requires.parts

pub returns-in-Err-clause-goes : goal.returns-in-Err-clause-goes
returns-in-Err-clause-goes g c =
    go_err c.args.errand.now.asking.now (class_queries c.args.errand.now.walk.now.options c.args.classes.now (case_of c.args.spot.now.judged)) c.args.going.now c.loop-class.going c.judge_class.new.going c.args.steps.now c.loop-class.steps c.judge_class.new.steps
    (class_queries c.args.errand.now.walk.now.options (drop c.loop-class.class-index c.args.classes.now) (case_of c.args.spot.now.judged)) _ (class_queries c.args.errand.now.walk.now.options (drop (c.loop-class.class-index + 1) c.args.classes.now) (case_of c.args.spot.now.judged)) c.in-Err.fault
    (classes_here c.args.errand.now.walk.now.options (case_of c.args.spot.now.judged) c.args.classes.now _ c.loop-class.class-index (search rules) (search rules)) c.loop-class.invariant.way c.in-Err.ensures.goes

pub loop-class-preserved : goal.loop-class-preserved
loop-class-preserved g c = record {
  way = go_next c.args.errand.now.asking.now (class_queries c.args.errand.now.walk.now.options c.args.classes.now (case_of c.args.spot.now.judged)) c.args.going.now c.loop-class.going c.judge_class.new.going c.args.steps.now c.loop-class.steps c.judge_class.new.steps
      (class_queries c.args.errand.now.walk.now.options (drop c.loop-class.class-index c.args.classes.now) (case_of c.args.spot.now.judged)) _ (class_queries c.args.errand.now.walk.now.options (drop (c.loop-class.class-index + 1) c.args.classes.now) (case_of c.args.spot.now.judged))
      (classes_here c.args.errand.now.walk.now.options (case_of c.args.spot.now.judged) c.args.classes.now _ c.loop-class.class-index (search rules) (search rules)) c.loop-class.invariant.way tt c.in-Ok.ensures.goes;
  ready = c.in-Ok.ensures.shared;
  required = c.judge_class.ensures.required ∙ c.loop-class.invariant.required;
}

pub returns-clause-goes : goal.returns-clause-goes
returns-clause-goes g c =
    go_end c.args.errand.now.asking.now (class_queries c.args.errand.now.walk.now.options c.args.classes.now (case_of c.args.spot.now.judged)) (class_queries c.args.errand.now.walk.now.options (drop c.loop-class.class-index c.args.classes.now) (case_of c.args.spot.now.judged))
    c.args.going.now c.loop-class.going c.args.steps.now c.loop-class.steps tt
    (classes_left c.args.errand.now.walk.now.options (case_of c.args.spot.now.judged) c.args.classes.now c.loop-class.class-index (search rules)) c.loop-class.invariant.way
