use Rattle.std.proofs.Common.{◌*◌, ◌<◌, ◌++◌, ◌∷◌, [], ℕ, List, sym, subst}
use Rattle.std.specs.List.{AllByRecursion}
use Rattle.gv_logic.specs.Formulas.{Formula, InRange}
use Rattle.gv_logic.proofs.clause.Clauses.add.Goals as goal

in_range_more : (n : ℕ) (clauses : List (List ℕ)) (clause : List ℕ) → InRange n clauses → AllByRecursion (λ lit. lit < n) clause → InRange n (clauses ++ clause ∷ [])
in_range_more n [] clause are is = (is, tt)
in_range_more n (c ∷ clauses) clause are is = (are.0, in_range_more n clauses clause are.1 is)

pub invariant_of-self-2 : goal.invariant_of-self-2
invariant_of-self-2 c =
    let range : AllByRecursion (λ lit. lit < 2 * c.self.inside.variables) c.args.lits.now =
    subst (λ (f : Formula). AllByRecursion (λ lit. lit < 2 * f.variables) c.args.lits.now) (sym c.self.view_is) c.requires in
    record {
      named = subst (λ (cs : List (List ℕ)). InRange (2 * c.self.inside.variables) cs) (sym c.in_ok-add.ensures.ok)
          (in_range_more (2 * c.self.inside.variables) c.self.inside.lists c.args.lits.now c.self.invariant.named range);
      few = c.in_ok-add.ensures.few;
    }
