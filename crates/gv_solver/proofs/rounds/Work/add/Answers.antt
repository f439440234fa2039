use Rattle.std.proofs.Common.{◌≡◌, ◌++◌, ◌∷◌, [], sym, ap, subst, ◌∙◌}
use Rattle.gv_logic.specs.Formulas.{Formula}
use Rattle.gv_logic.specs.Logs.{Step}
use Rattle.gv_trail.specs.Entries.{assignment}
use Rattle.gv_solver.specs.Search.{IsSameWay, NoneFalse}
use Rattle.gv_solver.proofs.Retreat.{attached}
use Rattle.gv_solver.proofs.rounds.Work.add.Goals as goal

pub returns-clause-stays : goal.returns-clause-stays
returns-clause-stays c = record {
  variables = c.in_ok-attach.ensures.over.variables ∙ ap (λ (f : Formula). f.variables) c.in_ok-add.ensures.ok ∙ sym c.requires.ready.over.variables;
  entries = c.in_ok-attach.ensures.entries;
}

pub returns-clause-open : goal.returns-clause-open
returns-clause-open c o n =
    let same : IsSameWay c.args.trail.now c.attach.new.self = record {
      variables = c.in_ok-attach.ensures.over.variables ∙ ap (λ (f : Formula). f.variables) c.in_ok-add.ensures.ok ∙ sym c.requires.ready.over.variables;
      entries = c.in_ok-attach.ensures.entries;
    } in
    let clauses : c.add.new.self.clauses ≡ c.args.self.now.clauses.clauses ++ c.args.step.clause ∷ [] = ap (λ (f : Formula). f.clauses) c.in_ok-add.ensures.ok ∙ ap (λ x. c.args.self.now.clauses.clauses ++ x ∷ []) (c.items.ensures.items ∙ ap (λ (s : Step). s.clause) c.step.view_is) in
    subst (λ z. NoneFalse z (assignment c.attach.new.self)) (sym clauses) (attached c.args.self.now.clauses.clauses c.args.step.clause c.args.trail.now c.attach.new.self same o n)
