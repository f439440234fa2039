use Rattle.std.proofs.Common.{◌≡◌, ◌-◌, ◌*◌, ◌<◌, ◌^◌, false, subst, get_or, ◌∙◌, length, sym, ap, arith}
use Rattle.std.specs.Prelude.{replicate}
use Rattle.std.proofs.lemmas.List.{length-map, length-replicate}
use Rattle.gv_solver.specs.LevelCounts.{IsCounted, at_level}
use Rattle.gv_solver.specs.Point.{IsWay}
use Rattle.gv_solver.proofs.Counts.{few_entries, count_starts, count_ends}
use Rattle.gv_solver.proofs.Points.{way_starts, way_ends, at_zero}
use Rattle.gv_solver.proofs.point.first_point.Goals as goal

pub loop-left-init : goal.loop-left-init
loop-left-init c =
    let long : length c.assigned-lits.result.now ≡ length c.args.trail.now.entries = ap length c.assigned-lits.ensures ∙ length-map c.args.trail.now.entries (λ e. e.lit) in
    let none : c.in_ok-way.way.marks.items ≡ replicate (2 * c.args.trail.now.variables) false = c.in_ok-way.ensures.marks ∙ ap (λ v. replicate (2 * v) false) (c.variables.ensures ∙ sym c.requires.over.variables) in
    let some : 0 < c.args.trail.now.level = omega (arith, c.level.ensures, c.if-level-eq0.false) in
    let few : length c.args.trail.now.entries < 2 ^ 60 = few_entries c.args.clauses.now c.args.trail.now c.variables.result c.requires.over c.variables.ensures (omega arith) in
    record {
      way = way_starts c.args.clauses.now c.args.trail.now c.args.conflict (length c.assigned-lits.result.now) c.in_ok-way.way c.need_clause.new.self c.requires.conflict (ap length none ∙ length-replicate (2 * c.args.trail.now.variables) false) c.in_ok-way.ensures.clause c.in_ok-way.ensures.reasons c.need_clause.ensures.needs long;
      counted = count_starts c.args.clauses.now c.args.trail.now c.args.conflict (length c.assigned-lits.result.now) c.in_ok-way.way c.need_clause.new.self c.requires.over (c.in_ok-way.ensures.level ∙ c.level-2.ensures) c.in_ok-way.ensures.found c.in_ok-way.ensures.count none c.in_ok-way.ensures.clause
          c.requires.conflict c.requires.late c.need_clause.ensures.needs c.need_clause.ensures.counts long some few;
      at = omega (arith, long);
    }

pub loop-left-preserved : goal.loop-left-preserved
loop-left-preserved c =
    let long : length c.assigned-lits.result.now ≡ length c.args.trail.now.entries = ap length c.assigned-lits.ensures ∙ length-map c.args.trail.now.entries (λ e. e.lit) in
    let lt : c.loop-left.left - 1 < length c.args.trail.now.entries = omega (arith, c.loop-left.invariant.at, c.loop-left-test.true) in
    let lit = ap (λ ls. get_or ls (c.loop-left.left - 1) 0) (sym c.assigned-lits.ensures) ∙ sym (at_zero c.assigned-lits.result.now (c.loop-left.left - 1) c.index-lits-left.result (omega (arith, lt, long)) c.index-lits-left.is) in
    let some : 0 < c.args.trail.now.level = omega (arith, c.level.ensures, c.if-level-eq0.false) in
    let few : length c.args.trail.now.entries < 2 ^ 60 = few_entries c.args.clauses.now c.args.trail.now c.variables.result c.requires.over c.variables.ensures (omega arith) in
    record {
      way = c.in_ok-pass.ensures.passes c.args.conflict (c.loop-left.left - 1) lt lit
          (subst (λ m. IsWay c.args.clauses.now.clauses c.args.trail.now c.args.conflict m c.loop-left.way) (omega (arith, c.loop-left-test.true)) c.loop-left.invariant.way);
      counted = c.in_ok-pass.ensures.counts (c.loop-left.left - 1) lt lit some few (subst (λ m. IsCounted c.args.trail.now m c.loop-left.way) (omega (arith, c.loop-left-test.true)) c.loop-left.invariant.counted);
      at = omega (arith, c.loop-left.invariant.at);
    }

pub returns-clause-step_follows : goal.returns-clause-step_follows
returns-clause-step_follows c =
    let none_left : c.loop-left.left ≡ 0 = omega (arith, c.loop-left-test.false) in
    way_ends c.args.clauses.now c.args.trail.now c.args.conflict c.loop-left.way c.in_ok-step.field-0 c.requires.over
    (subst (λ n. IsWay c.args.clauses.now.clauses c.args.trail.now c.args.conflict n c.loop-left.way) none_left c.loop-left.invariant.way) c.in_ok-step.ensures.clause c.in_ok-step.ensures.hints

pub returns-clause-one : goal.returns-clause-one
returns-clause-one c =
    let none_left : c.loop-left.left ≡ 0 = omega (arith, c.loop-left-test.false) in
    ap (at_level c.args.trail.now.level c.args.trail.now.entries) c.in_ok-step.ensures.clause
    ∙ count_ends c.args.trail.now c.loop-left.way (subst (λ n. IsCounted c.args.trail.now n c.loop-left.way) none_left c.loop-left.invariant.counted)
