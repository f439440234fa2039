use Rattle.std.proofs.Common.{◌+◌, drop, refl}
use Rattle.std.specs.Prelude.{flat_map, filter_map}
use Rattle.gv_plain.specs.Cases.{case_in}
use Rattle.gv_plain.specs.Context.{listed}
use Rattle.gv_checks.specs.Queries.{case_asks, case_queries}
use Rattle.gv_checks.proofs.GoLemmas.{go_end, go_err, go_next}
use Rattle.gv_plain.specs.Shown.{all_seen, as_seen, seen_at}
use Rattle.gv_checks.proofs.WalkLemmas.{one_of, profiles_here, profiles_left}
use Rattle.gv_checks.proofs.walking.judge_views.Goals as goal

pub judge_view-requires-clause-view : goal.judge_view-requires-clause-view
judge_view-requires-clause-view g c =
    as_seen c.args.errand.now.walk.now.repo.pkgs c.view-item.result.profile c.view-item.result
    (seen_at c.args.errand.now.walk.now.repo.pkgs c.args.errand.now.walk.now.repo.profiles c.args.views.now c.loop-view.view-index c.view-item.result c.requires.views c.loop-view-test.true c.view-item.is).pkgs_are refl

pub judge_view-requires-clause-one : goal.judge_view-requires-clause-one
judge_view-requires-clause-one g c =
    one_of c.args.errand.now.walk.now.repo.pkgs c.args.errand.now.walk.now.repo.profiles c.loop-view.view-index c.view-item.result
    (seen_at c.args.errand.now.walk.now.repo.pkgs c.args.errand.now.walk.now.repo.profiles c.args.views.now c.loop-view.view-index c.view-item.result c.requires.views c.loop-view-test.true c.view-item.is) c.view-item.result.profile refl

pub returns-in-Err : goal.returns-in-Err
returns-in-Err g c =
    let at = seen_at c.args.errand.now.walk.now.repo.pkgs c.args.errand.now.walk.now.repo.profiles c.args.views.now c.loop-view.view-index c.view-item.result c.requires.views c.loop-view-test.true c.view-item.is in
    go_err c.args.errand.now.asking.now (flat_map (case_queries c.args.errand.now.walk.now.options) (filter_map (case_in c.args.errand.now.walk.now.repo.pkgs (listed c.args.one.now)) c.args.errand.now.walk.now.repo.profiles))
    c.args.going.now c.loop-view.going c.judge_view.new.going c.args.steps.now c.loop-view.steps c.judge_view.new.steps
    (flat_map (case_queries c.args.errand.now.walk.now.options) (filter_map (case_in c.args.errand.now.walk.now.repo.pkgs (listed c.args.one.now)) (drop c.loop-view.view-index c.args.errand.now.walk.now.repo.profiles)))
    (case_asks c.args.errand.now.walk.now.options (case_in c.args.errand.now.walk.now.repo.pkgs (listed c.args.one.now) c.view-item.result.profile))
    (flat_map (case_queries c.args.errand.now.walk.now.options) (filter_map (case_in c.args.errand.now.walk.now.repo.pkgs (listed c.args.one.now)) (drop (c.loop-view.view-index + 1) c.args.errand.now.walk.now.repo.profiles))) c.in-Err.fault
    (profiles_here c.args.errand.now.walk.now.options c.args.errand.now.walk.now.repo.pkgs (listed c.args.one.now) c.args.errand.now.walk.now.repo.profiles c.loop-view.view-index c.view-item.result.profile at.lt at.here) c.loop-view.invariant.way c.in-Err.ensures.goes

pub loop-view-preserved : goal.loop-view-preserved
loop-view-preserved g c =
    let at = seen_at c.args.errand.now.walk.now.repo.pkgs c.args.errand.now.walk.now.repo.profiles c.args.views.now c.loop-view.view-index c.view-item.result c.requires.views c.loop-view-test.true c.view-item.is in
    record {
      way = go_next c.args.errand.now.asking.now (flat_map (case_queries c.args.errand.now.walk.now.options) (filter_map (case_in c.args.errand.now.walk.now.repo.pkgs (listed c.args.one.now)) c.args.errand.now.walk.now.repo.profiles))
          c.args.going.now c.loop-view.going c.judge_view.new.going c.args.steps.now c.loop-view.steps c.judge_view.new.steps
          (flat_map (case_queries c.args.errand.now.walk.now.options) (filter_map (case_in c.args.errand.now.walk.now.repo.pkgs (listed c.args.one.now)) (drop c.loop-view.view-index c.args.errand.now.walk.now.repo.profiles)))
          (case_asks c.args.errand.now.walk.now.options (case_in c.args.errand.now.walk.now.repo.pkgs (listed c.args.one.now) c.view-item.result.profile))
          (flat_map (case_queries c.args.errand.now.walk.now.options) (filter_map (case_in c.args.errand.now.walk.now.repo.pkgs (listed c.args.one.now)) (drop (c.loop-view.view-index + 1) c.args.errand.now.walk.now.repo.profiles)))
          (profiles_here c.args.errand.now.walk.now.options c.args.errand.now.walk.now.repo.pkgs (listed c.args.one.now) c.args.errand.now.walk.now.repo.profiles c.loop-view.view-index c.view-item.result.profile at.lt at.here) c.loop-view.invariant.way tt c.in-Ok.ensures.goes;
      kept = c.in-Ok.ensures.shared;
    }

pub returns : goal.returns
returns g c =
    go_end c.args.errand.now.asking.now (flat_map (case_queries c.args.errand.now.walk.now.options) (filter_map (case_in c.args.errand.now.walk.now.repo.pkgs (listed c.args.one.now)) c.args.errand.now.walk.now.repo.profiles))
    (flat_map (case_queries c.args.errand.now.walk.now.options) (filter_map (case_in c.args.errand.now.walk.now.repo.pkgs (listed c.args.one.now)) (drop c.loop-view.view-index c.args.errand.now.walk.now.repo.profiles)))
    c.args.going.now c.loop-view.going c.args.steps.now c.loop-view.steps tt
    (profiles_left c.args.errand.now.walk.now.options c.args.errand.now.walk.now.repo.pkgs (listed c.args.one.now) c.args.errand.now.walk.now.repo.profiles c.loop-view.view-index
    (all_seen c.args.errand.now.walk.now.repo.pkgs c.args.errand.now.walk.now.repo.profiles c.args.views.now c.loop-view.view-index c.requires.views c.loop-view-test.false)) c.loop-view.invariant.way
