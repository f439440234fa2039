use Rattle.std.proofs.Common.{◌≡◌, ◌∷◌, List, ℕ, Some, None, length, refl, sym, ap, subst, ◌∙◌}
use Rattle.std.specs.Prelude.{slice_get}
use Rattle.std.proofs.lemmas.Bool.{ltb-true, ltb-false}
use Rattle.std.proofs.lemmas.Option.{slice_get_past}
use Rattle.gv_load.specs.Ahead.{reached_after}
use Rattle.gv_load.specs.Closed.{IsClosedBut, paths_left}
use Rattle.gv_load.specs.Directories.{dir_at}
use Rattle.gv_load.specs.ListLemmas.{read_at}
use Rattle.gv_load.specs.Reaches.{asked_whole, next_path, no_path, same_whole}
use Rattle.gv_load.specs.Reaching.{reach_below}
use Rattle.gv_load.proofs.Closing.{closed_done, closed_next}
use Rattle.gv_load.proofs.Going.{stays, wants}
use Rattle.gv_load.proofs.reaching.go_on.Goals as goal
use Rattle.gv_reading.specs.Causes.{look_in}

pub returns-in_default : goal.returns-in_default
returns-in_default g c =
    let none : slice_get c.args.rest.paths c.args.rest.next ≡ None =
    ap (λ (ps : List (List ℕ)). slice_get ps c.args.rest.next) (sym c.items.ensures)
    ∙ slice_get_past c.items.result.now c.args.rest.next (ltb-false _ _ (sym c.in_default.ensures.lookup.0)) in
    stays c.args.reached _ _ c.args.ahead.now.items c.requires.knows c.requires.indexed
    (λ dirs. no_path dirs c.args.ahead.now.items c.args.rest c.args.reached.order none)
    (λ dirs. closed_done dirs c.args.reached.order c.args.ahead.now.items c.args.rest none)

pub returns-in_default-copy : goal.returns-in_default-copy
returns-in_default-copy g c = wants c.args.reached _ refl

pub returns-in_default-push : goal.returns-in_default-push
returns-in_default-push g c = wants c.args.reached _ refl

pub returns-in-Ok-arrive : goal.returns-in-Ok-arrive
returns-in-Ok-arrive g c =
    let dirs = dir_at (look_in (g.T.Tree.files c.args.tree.now)) in
    let there : slice_get c.args.rest.paths c.args.rest.next ≡ Some c.in-Some.path.now =
    ap (λ (ps : List (List ℕ)). slice_get ps c.args.rest.next) (sym c.items.ensures)
    ∙ read_at c.items.result.now c.args.rest.next c.in-Some.path.now (ltb-true _ _ (sym c.in-Some.ensures.lookup.0)) c.in-Some.ensures.lookup.1 in
    let one = c.in-Ok-arrive.ensures in
    record {
      same = one.same;
      knows = one.knows;
      indexed = one.indexed;
      passed = one.passed;
      dirs = one.dirs;
      value = λ t. record {
        ends = (one.value t).ends
            ∙ ap (λ (p : List ℕ). reached_after dirs 0 c.push.new.self.items (reach_below dirs (length c.push.new.self.items) c.args.reached.order p)) c.in-Ok.ensures
            ∙ next_path dirs c.args.ahead.now.items c.push.new.self.items c.args.rest c.args.reached.order c.in-Some.path.now there c.in-Ok-push.ensures.items;
        closed = λ closed. (one.value t).closed
            (subst (λ (p : List ℕ). IsClosedBut dirs c.args.reached.order (p ∷ paths_left c.push.new.self.items)) (sym c.in-Ok.ensures)
            (closed_next dirs c.args.reached.order c.args.ahead.now.items c.push.new.self.items c.args.rest c.in-Some.path.now there c.in-Ok-push.ensures.items closed));
      };
    }

pub returns-in-Err : goal.returns-in-Err
returns-in-Err g c =
    let told = g.T.Tree.files c.args.tree.now in
    let dirs = dir_at (look_in told) in
    let there : slice_get c.args.rest.paths c.args.rest.next ≡ Some c.in-Some.path.now =
    ap (λ (ps : List (List ℕ)). slice_get ps c.args.rest.next) (sym c.items.ensures)
    ∙ read_at c.items.result.now c.args.rest.next c.in-Some.path.now (ltb-true _ _ (sym c.in-Some.ensures.lookup.0)) c.in-Some.ensures.lookup.1 in
    let one = c.in-Err.ensures in
    record {
      told = one.told;
      around = one.around;
      later = one.later;
      cause = λ start so_far. same_whole told _ _ start _ _ _
          (λ t. sym (ap (λ (p : List ℕ). reached_after dirs 0 c.push.new.self.items (reach_below dirs (length c.push.new.self.items) c.args.reached.order p)) c.in-Ok.ensures
          ∙ next_path dirs c.args.ahead.now.items c.push.new.self.items c.args.rest c.args.reached.order c.in-Some.path.now there c.in-Ok-push.ensures.items))
          (one.cause start so_far);
      asked = λ start so_far. asked_whole told start _ _ _
          (λ t. sym (ap (λ (p : List ℕ). reached_after dirs 0 c.push.new.self.items (reach_below dirs (length c.push.new.self.items) c.args.reached.order p)) c.in-Ok.ensures
          ∙ next_path dirs c.args.ahead.now.items c.push.new.self.items c.args.rest c.args.reached.order c.in-Some.path.now there c.in-Ok-push.ensures.items))
          (one.asked start so_far);
      here = one.here;
    }
