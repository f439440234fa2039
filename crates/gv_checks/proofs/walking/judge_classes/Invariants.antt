use Rattle.std.proofs.Common.{◌≡◌, drop}
use Rattle.gv_plain.specs.Context.{case_of}
use Rattle.gv_checks.specs.Queries.{class_queries}
use Rattle.gv_checks.specs.Shared.{AreReady}
use Rattle.gv_checks.specs.Walks.{IsOnWay}
use Rattle.gv_checks.proofs.walking.judge_classes.Given as goal

abbrev pub invariant-loop-class : goal.invariant-loop-class
invariant-loop-class g l = record {
  way : IsOnWay l.errand.asking.now (class_queries l.errand.walk.now.options (drop l.class-index l.classes) (case_of l.spot.judged)) (class_queries l.errand.walk.now.options l.classes (case_of l.spot.judged)) l.initial.going l.going l.initial.steps l.steps;
  ready : AreReady l.spot.judged l.going.progress.used.certs l.shared;
  required : l.shared.required.items ≡ l.initial.shared.required.items;
}
