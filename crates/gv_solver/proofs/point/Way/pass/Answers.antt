use Rattle.std.proofs.Common.{◌≡◌, ◌++◌, [], ◌∷◌, ◌∙◌, false, true, refl, sym, ap, subst}
use Rattle.gv_logic.specs.Partial.{is_true}
use Rattle.gv_solver.proofs.Counts.{count_skips, adds_counted, count_takes}
use Rattle.gv_solver.proofs.Points.{way_skips, adds_ok, way_takes}
use Rattle.gv_solver.proofs.point.Way.pass.Goals as goal

pub returns-then-not-is_on-clause-passes : goal.returns-then-not-is_on-clause-passes
returns-then-not-is_on-clause-passes c =
    way_skips c.args.clauses.now c.args.trail.now c.args.lit c.args.self.now c.requires.over (subst (λ m. is_true m c.args.lit ≡ false) c.deref.ensures.value (sym c.is_on.ensures ∙ c.if-not-is_on.true))

pub returns-then-not-is_on-clause-counts : goal.returns-then-not-is_on-clause-counts
returns-then-not-is_on-clause-counts c =
    count_skips c.args.clauses.now c.args.trail.now c.args.lit c.args.self.now c.requires.over (subst (λ m. is_true m c.args.lit ≡ false) c.deref.ensures.value (sym c.is_on.ensures ∙ c.if-not-is_on.true))

pub need_clause-requires : goal.need_clause-requires
need_clause-requires c = rw c.reason.ensures.marks c.requires.marks

pub returns-in-None-clause-passes : goal.returns-in-None-clause-passes
returns-in-None-clause-passes c =
    adds_ok c.add.result c.args.clauses.now c.args.trail.now c.args.lit c.args.self.now
    (record { level = c.reason.new.self.level; marks = c.reason.new.self.marks; unmet = c.reason.new.self.unmet; found = c.reason.new.self.found; reasons = c.reason.new.self.reasons; clause = c.add.new.self })
    c.opposite.result c.reason.new.self.clause c.requires.over c.reason.ensures.marks c.reason.ensures.same.reasons
    c.reason.ensures.same.clause c.opposite.ensures c.add.ensures.ok

pub returns-in-None-clause-counts : goal.returns-in-None-clause-counts
returns-in-None-clause-counts c =
    adds_counted c.add.result c.args.clauses.now c.args.trail.now c.args.lit c.args.self.now c.reason.new.self
    (record { level = c.reason.new.self.level; marks = c.reason.new.self.marks; unmet = c.reason.new.self.unmet; found = c.reason.new.self.found; reasons = c.reason.new.self.reasons; clause = c.add.new.self })
    c.reason.result c.opposite.result c.requires.over (subst (λ m. is_true m c.args.lit ≡ true) c.deref.ensures.value (sym c.is_on.ensures ∙ c.if-not-is_on.false)) c.reason.ensures.chooses c.in-None.is c.reason.ensures.same.clause
    refl refl refl refl c.opposite.ensures c.add.ensures.ok

pub returns-in_ok-push-in-Some-clause-passes : goal.returns-in_ok-push-in-Some-clause-passes
returns-in_ok-push-in-Some-clause-passes c =
    way_takes c.args.clauses.now c.args.trail.now c.args.lit c.in-Some.number c.args.self.now _ c.need_clause.new.self c.requires.over c.in-Some.ensures.reason c.reason.ensures.marks c.reason.ensures.same.clause
    (c.in_ok-push-in-Some.ensures.items ∙ ap (λ z. z.items ++ c.in-Some.number ∷ []) c.reason.ensures.same.reasons) c.need_clause.ensures.needs

pub returns-in_ok-push-in-Some-clause-counts : goal.returns-in_ok-push-in-Some-clause-counts
returns-in_ok-push-in-Some-clause-counts c =
    count_takes c.args.clauses.now c.args.trail.now c.args.lit c.in-Some.number c.args.self.now c.reason.new.self _ c.need_clause.new.self c.reason.result c.requires.over
    (subst (λ m. is_true m c.args.lit ≡ true) c.deref.ensures.value (sym c.is_on.ensures ∙ c.if-not-is_on.false)) c.reason.ensures.chooses c.in-Some.is c.reason.ensures.same.clause c.in-Some.ensures.reason
    refl refl refl refl refl c.need_clause.ensures.needs c.need_clause.ensures.counts
