use Rattle.std.proofs.Common.{drop}
use Rattle.std.specs.Prelude.{flat_map, filter_map}
use Rattle.gv_plain.specs.Cases.{case_in}
use Rattle.gv_plain.specs.Context.{listed}
use Rattle.gv_checks.specs.Queries.{case_queries}
use Rattle.gv_checks.specs.Shared.{AreKept}
use Rattle.gv_checks.specs.Walks.{IsOnWay}
use Rattle.gv_checks.proofs.walking.judge_views.Given as goal

abbrev pub invariant-loop-view : goal.invariant-loop-view
invariant-loop-view g l = record {
  way : IsOnWay l.errand.asking.now (flat_map (case_queries l.errand.walk.now.options) (filter_map (case_in l.errand.walk.now.repo.pkgs (listed l.one)) (drop l.view-index l.errand.walk.now.repo.profiles)))
      (flat_map (case_queries l.errand.walk.now.options) (filter_map (case_in l.errand.walk.now.repo.pkgs (listed l.one)) l.errand.walk.now.repo.profiles)) l.initial.going l.going l.initial.steps l.steps;
  kept : AreKept l.one.pkg.now l.one.body.now l.going.progress.used.certs l.shared.queries.items;
}
