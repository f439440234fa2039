use Rattle.std.proofs.Common.{ℕ, ◌+◌, drop, subst}
use Rattle.std.specs.Prelude.{flat_map, Ok, Err}
use Rattle.gv_plain.specs.Cases.{cases_of, members_from}
use Rattle.gv_plain.specs.Shown.{numbered_at}
use Rattle.gv_checks.specs.Chosen.{told_of}
use Rattle.gv_checks.specs.Queries.{case_queries}
use Rattle.gv_checks.specs.Walks.{Goes}
use Rattle.gv_checks.proofs.GoLemmas.{go_end, go_err, go_next, go_short}
use Rattle.gv_checks.proofs.WalkLemmas.{bodies_left, member_here, members_left, told_bodies_end, told_end, told_next}
use Rattle.gv_checks.proofs.walking.judge_members.Goals as goal

pub returns-then-i-bodies-clause-goes : goal.returns-then-i-bodies-clause-goes
returns-then-i-bodies-clause-goes g c =
    go_end c.args.errand.now.asking.now (flat_map (case_queries c.args.errand.now.walk.now.options) (flat_map (cases_of c.args.errand.now.walk.now.repo) (members_from 0 c.args.pkgs.now c.args.bodies.now))) (flat_map (case_queries c.args.errand.now.walk.now.options) (flat_map (cases_of c.args.errand.now.walk.now.repo) (members_from c.loop-i.i (drop c.loop-i.i c.args.pkgs.now) (drop c.loop-i.i c.args.bodies.now))))
    c.args.going.now c.loop-i.going c.args.steps.now c.loop-i.steps tt (bodies_left c.args.errand.now.walk.now.options c.args.errand.now.walk.now.repo c.args.pkgs.now c.args.bodies.now c.loop-i.i c.if-i-bodies.true) c.loop-i.invariant.way

pub returns-in_default-clause-goes : goal.returns-in_default-clause-goes
returns-in_default-clause-goes g c =
    go_short c.args.errand.now.asking.now (flat_map (case_queries c.args.errand.now.walk.now.options) (flat_map (cases_of c.args.errand.now.walk.now.repo) (members_from 0 c.args.pkgs.now c.args.bodies.now))) (flat_map (case_queries c.args.errand.now.walk.now.options) (flat_map (cases_of c.args.errand.now.walk.now.repo) (members_from c.loop-i.i (drop c.loop-i.i c.args.pkgs.now) (drop c.loop-i.i c.args.bodies.now))))
    c.args.going.now c.loop-i.going c.args.steps.now c.loop-i.steps c.loop-i.invariant.way

pub judge_member-requires-clause-numbered : goal.judge_member-requires-clause-numbered
judge_member-requires-clause-numbered g c =
    numbered_at c.args.errand.now.walk.now.repo c.index-pkgs-i.result c.in-Ok.number c.loop-i.i c.in-Ok.ensures.1 c.args.pkgs.now c.requires.pkgs c.loop-i-test.true c.index-pkgs-i.is

pub returns-in-Err-clause-goes : goal.returns-in-Err-clause-goes
returns-in-Err-clause-goes g c =
    go_err c.args.errand.now.asking.now (flat_map (case_queries c.args.errand.now.walk.now.options) (flat_map (cases_of c.args.errand.now.walk.now.repo) (members_from 0 c.args.pkgs.now c.args.bodies.now)))
    c.args.going.now c.loop-i.going c.judge_member.new.going c.args.steps.now c.loop-i.steps c.judge_member.new.steps
    (flat_map (case_queries c.args.errand.now.walk.now.options) (flat_map (cases_of c.args.errand.now.walk.now.repo) (members_from c.loop-i.i (drop c.loop-i.i c.args.pkgs.now) (drop c.loop-i.i c.args.bodies.now)))) (flat_map (case_queries c.args.errand.now.walk.now.options) (cases_of c.args.errand.now.walk.now.repo (record { number = c.loop-i.i; pkg = c.index-pkgs-i.result; body = c.index-bodies-i.result })))
    (flat_map (case_queries c.args.errand.now.walk.now.options) (flat_map (cases_of c.args.errand.now.walk.now.repo) (members_from (c.loop-i.i + 1) (drop (c.loop-i.i + 1) c.args.pkgs.now) (drop (c.loop-i.i + 1) c.args.bodies.now)))) c.in-Err.fault
    (member_here c.args.errand.now.walk.now.options c.args.errand.now.walk.now.repo c.args.pkgs.now c.args.bodies.now c.index-pkgs-i.result c.index-bodies-i.result c.loop-i.i c.loop-i-test.true c.if-i-bodies.false c.index-pkgs-i.is c.index-bodies-i.is) c.loop-i.invariant.way
    (subst (λ (n : ℕ). Goes c.args.errand.now.asking.now (flat_map (case_queries c.args.errand.now.walk.now.options) (cases_of c.args.errand.now.walk.now.repo (record { number = n; pkg = c.index-pkgs-i.result; body = c.index-bodies-i.result })))
    c.loop-i.going c.judge_member.new.going c.loop-i.steps c.judge_member.new.steps (Err c.in-Err.fault)) c.in-Ok.ensures.1 c.in-Err.ensures.goes)

pub loop-i-preserved : goal.loop-i-preserved
loop-i-preserved g c = record {
  way = go_next c.args.errand.now.asking.now (flat_map (case_queries c.args.errand.now.walk.now.options) (flat_map (cases_of c.args.errand.now.walk.now.repo) (members_from 0 c.args.pkgs.now c.args.bodies.now)))
      c.args.going.now c.loop-i.going c.judge_member.new.going c.args.steps.now c.loop-i.steps c.judge_member.new.steps
      (flat_map (case_queries c.args.errand.now.walk.now.options) (flat_map (cases_of c.args.errand.now.walk.now.repo) (members_from c.loop-i.i (drop c.loop-i.i c.args.pkgs.now) (drop c.loop-i.i c.args.bodies.now)))) (flat_map (case_queries c.args.errand.now.walk.now.options) (cases_of c.args.errand.now.walk.now.repo (record { number = c.loop-i.i; pkg = c.index-pkgs-i.result; body = c.index-bodies-i.result })))
      (flat_map (case_queries c.args.errand.now.walk.now.options) (flat_map (cases_of c.args.errand.now.walk.now.repo) (members_from (c.loop-i.i + 1) (drop (c.loop-i.i + 1) c.args.pkgs.now) (drop (c.loop-i.i + 1) c.args.bodies.now))))
      (member_here c.args.errand.now.walk.now.options c.args.errand.now.walk.now.repo c.args.pkgs.now c.args.bodies.now c.index-pkgs-i.result c.index-bodies-i.result c.loop-i.i c.loop-i-test.true c.if-i-bodies.false c.index-pkgs-i.is c.index-bodies-i.is) c.loop-i.invariant.way tt
      (subst (λ (n : ℕ). Goes c.args.errand.now.asking.now (flat_map (case_queries c.args.errand.now.walk.now.options) (cases_of c.args.errand.now.walk.now.repo (record { number = n; pkg = c.index-pkgs-i.result; body = c.index-bodies-i.result })))
      c.loop-i.going c.judge_member.new.going c.loop-i.steps c.judge_member.new.steps (Ok tt)) c.in-Ok.ensures.1 c.in-Ok-judge_member.ensures.goes);
  plain = told_next (told_of c.args.errand.now.asking.now.chosen c.args.errand.now.walk.now.options c.args.errand.now.walk.now.repo) c.args.pkgs.now c.args.bodies.now c.index-pkgs-i.result c.index-bodies-i.result c.loop-i.i
      c.loop-i-test.true c.if-i-bodies.false c.index-pkgs-i.is c.index-bodies-i.is
      c.in-Ok.number c.in-Ok.ensures.1 c.loop-i.plain c.judge_member.new.plain c.in-Ok-judge_member.ensures.plain _ c.loop-i.invariant.plain;
}

pub returns-clause-goes : goal.returns-clause-goes
returns-clause-goes g c =
    go_end c.args.errand.now.asking.now (flat_map (case_queries c.args.errand.now.walk.now.options) (flat_map (cases_of c.args.errand.now.walk.now.repo) (members_from 0 c.args.pkgs.now c.args.bodies.now))) (flat_map (case_queries c.args.errand.now.walk.now.options) (flat_map (cases_of c.args.errand.now.walk.now.repo) (members_from c.loop-i.i (drop c.loop-i.i c.args.pkgs.now) (drop c.loop-i.i c.args.bodies.now))))
    c.args.going.now c.loop-i.going c.args.steps.now c.loop-i.steps tt (members_left c.args.errand.now.walk.now.options c.args.errand.now.walk.now.repo c.args.pkgs.now c.args.bodies.now c.loop-i.i c.loop-i-test.false) c.loop-i.invariant.way

pub returns-then-i-bodies-clause-plain : goal.returns-then-i-bodies-clause-plain
returns-then-i-bodies-clause-plain g c =
    told_bodies_end (told_of c.args.errand.now.asking.now.chosen c.args.errand.now.walk.now.options c.args.errand.now.walk.now.repo) c.args.pkgs.now c.args.bodies.now c.loop-i.i c.if-i-bodies.true c.loop-i.plain _ c.loop-i.invariant.plain

pub returns-clause-plain : goal.returns-clause-plain
returns-clause-plain g c =
    told_end (told_of c.args.errand.now.asking.now.chosen c.args.errand.now.walk.now.options c.args.errand.now.walk.now.repo) c.args.pkgs.now c.args.bodies.now c.loop-i.i c.loop-i-test.false c.loop-i.plain _ c.loop-i.invariant.plain
