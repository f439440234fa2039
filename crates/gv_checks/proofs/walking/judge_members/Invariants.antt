use Rattle.std.proofs.Common.{◌≡◌, ◌++◌, drop}
use Rattle.std.specs.Prelude.{flat_map}
use Rattle.gv_plain.specs.Cases.{cases_of, members_from}
use Rattle.gv_checks.specs.Chosen.{told_of}
use Rattle.gv_checks.specs.Queries.{case_queries}
use Rattle.gv_checks.specs.Walks.{IsOnWay}
use Rattle.gv_checks.proofs.walking.judge_members.Given as goal

abbrev pub invariant-loop-i : goal.invariant-loop-i
invariant-loop-i g l = record {
  way : IsOnWay l.errand.asking.now (flat_map (case_queries l.errand.walk.now.options) (flat_map (cases_of l.errand.walk.now.repo) (members_from l.i (drop l.i l.pkgs) (drop l.i l.bodies))))
      (flat_map (case_queries l.errand.walk.now.options) (flat_map (cases_of l.errand.walk.now.repo) (members_from 0 l.pkgs l.bodies))) l.initial.going l.going l.initial.steps l.steps;
  plain : l.plain ++ flat_map (told_of l.errand.asking.now.chosen l.errand.walk.now.options l.errand.walk.now.repo) (members_from l.i (drop l.i l.pkgs) (drop l.i l.bodies))
      ≡ l.initial.plain ++ flat_map (told_of l.errand.asking.now.chosen l.errand.walk.now.options l.errand.walk.now.repo) (members_from 0 l.pkgs l.bodies);
}
