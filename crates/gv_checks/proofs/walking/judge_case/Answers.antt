use Rattle.std.proofs.Common.{List, subst}
use Rattle.gv_facts.specs.declared.kinds.Class.{Class}
use Rattle.gv_plain.specs.Context.{case_of}
use Rattle.gv_checks.specs.Queries.{class_queries}
use Rattle.gv_checks.specs.Walks.{Goes}
use Rattle.gv_plain.specs.Lists.{on_ok}
use Rattle.gv_checks.proofs.SharedLemmas.{begun, ended}
use Rattle.gv_checks.proofs.walking.judge_case.Goals as goal

pub judge_classes-requires-clause-shared : goal.judge_classes-requires-clause-shared
judge_classes-requires-clause-shared g c = begun c.args.spot.now.judged c.args.going.now.progress.used.certs c.args.shared.now c.begin.new.self c.begin.ensures.queries c.begin.ensures.here c.requires.shared

pub returns-clause-goes : goal.returns-clause-goes
returns-clause-goes g c =
    subst (λ (ks : List Class). Goes c.args.errand.now.asking.now (class_queries c.args.errand.now.walk.now.options ks (case_of c.args.spot.now.judged)) c.args.going.now c.judge_classes.new.going c.args.steps.now c.judge_classes.new.steps c.judge_classes.result)
    c.class_order.ensures c.judge_classes.ensures.goes

pub returns-clause-shared : goal.returns-clause-shared
returns-clause-shared g c = on_ok c.judge_classes.result (ended c.args.spot.now.judged c.judge_classes.new.going.progress.used.certs c.judge_classes.new.shared) c.judge_classes.ensures.shared
