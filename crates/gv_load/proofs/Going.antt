-- Reaching directories, one after another.
use Rattle.std.proofs.Common.{◌≡◌, ◌≤◌, ℕ, List, [], ◌∷◌, Some, None, refl, sym, ap, subst, ◌∙◌, arith}
use Rattle.std.specs.Prelude.{Option}
use Rattle.gv_load.specs.Ahead.{IsIndexed, reached_after}
use Rattle.gv_load.specs.Closed.{IsClosed, IsClosedBut, paths_left}
use Rattle.gv_load.specs.Directories.{dir_at}
use Rattle.gv_load.specs.Going.{HasGone, HasStopped, LeadsOn}
use Rattle.gv_load.specs.ListLemmas.{on_left}
use Rattle.gv_load.specs.Reaches.{asked_whole, same_whole}
use Rattle.gv_load.specs.Reaching.{Dirs, from_line, reach_below}
use Rattle.gv_load.specs.declared.reaching.Ahead.{Ahead}
use Rattle.gv_load.specs.declared.reaching.Reached.{Reached}
use Rattle.gv_load.proofs.Closing.{closed_end, closed_start}
use Rattle.gv_reading.specs.Causes.{Knows, View, look_in}
use Rattle.gv_reading.specs.Reader.{Seen}
use Rattle.gv_reading.specs.declared.faults.LoadFault.{LoadFault}
use Rattle.gv_reading.specs.declared.faults.LoadFault.TheVariants.{NoMemory}

-- ---- one of them

-- nothing was done
pub stays : {at : View} {old : Seen} (reached : Reached) (paths : List (List ℕ)) (whole : Dirs → List (List ℕ)) (ahead : List Ahead) → Knows at.told old → IsIndexed reached
    → ((dirs : Dirs) → reached_after dirs 0 ahead reached.order ≡ whole dirs) → ((dirs : Dirs) → IsClosedBut dirs reached.order paths → IsClosedBut dirs reached.order (paths_left ahead))
    → HasGone at at reached old old paths whole ahead reached
stays {at = at} reached paths whole ahead knows indexed ends closed = record {
  same = refl;
  knows = knows;
  indexed = indexed;
  passed = λ start t so_far. so_far;
  dirs = λ t keeps. keeps;
  value = λ t. record { ends = ends (dir_at (look_in at.told)); closed = closed (dir_at (look_in at.told)) };
}

-- memory was wanted
pub wants : {At : List ℕ → Type 0} {before now : View} {old : Seen} (reached : Reached) (whole : Dirs → List (List ℕ)) → now ≡ before → HasStopped At before now reached old whole NoMemory
wants {before = before} {now = now} reached whole same = record {
  told = ap (λ (v : View). v.told) same;
  around = ap (λ (v : View). v.around) same;
  later = let e : now.faults ≡ before.faults = ap (λ (v : View). v.faults) same in omega arith;
  cause = λ start so_far. tt;
  asked = λ start so_far. tt;
  here = tt;
}

-- ---- two of them
module _ {before mid now : View} {reached r : Reached} {old m : Seen} {paths : List (List ℕ)} {whole : Dirs → List (List ℕ)} {ahead : List Ahead} (one : HasGone before mid reached old m paths whole ahead r) where
  pub gone_then : {new : Seen} {later : List Ahead} {next : Reached} → HasGone mid now r m new (paths_left ahead) (λ dirs. reached_after dirs 0 ahead r.order) later next → HasGone before now reached old new paths whole later next
  gone_then {new = new} {later = later} {next = next} two =
      let more = subst (λ (v : View). HasGone v now r m new (paths_left ahead) (λ dirs. reached_after dirs 0 ahead r.order) later next) one.same two in
      record {
        same = two.same ∙ one.same;
        knows = more.knows;
        indexed = more.indexed;
        passed = λ start t so_far. more.passed start t (one.passed start t so_far);
        dirs = λ t keeps. more.dirs t (one.dirs t keeps);
        value = λ t. record { ends = (more.value t).ends ∙ (one.value t).ends; closed = λ closed. (more.value t).closed ((one.value t).closed closed) };
      }

  pub stopped_then : {At : List ℕ → Type 0} {fault : LoadFault} → HasStopped At mid now r m (λ dirs. reached_after dirs 0 ahead r.order) fault → HasStopped At before now reached old whole fault
  stopped_then {At = At} {fault = fault} two =
      let more = subst (λ (v : View). HasStopped At v now r m (λ dirs. reached_after dirs 0 ahead r.order) fault) one.same two in
      record {
        told = more.told;
        around = more.around;
        later = more.later;
        cause = λ start so_far. same_whole before.told before.faults now.faults start (reached_after (dir_at (look_in before.told)) 0 ahead r.order) (whole (dir_at (look_in before.told))) fault
            (λ t. sym (one.value t).ends) (more.cause start (λ t. one.passed start t (so_far t)));
        asked = λ start so_far. asked_whole before.told start (reached_after (dir_at (look_in before.told)) 0 ahead r.order) (whole (dir_at (look_in before.told))) fault
            (λ t. sym (one.value t).ends) (more.asked start (λ t. one.passed start t (so_far t)));
        here = more.here;
      }

pub wants_then : {At : List ℕ → Type 0} {before now : View} {reached r : Reached} {old new : Seen} {paths : List (List ℕ)} {whole : Dirs → List (List ℕ)} {ahead : List Ahead} → HasGone before now reached old new paths whole ahead r →
    HasStopped At before now reached old whole NoMemory
wants_then {reached = reached} {whole = whole} one = wants reached whole one.same

-- the same of the tree as it was
pub stopped_here : {At : List ℕ → Type 0} {before mid now : View} {reached : Reached} {old : Seen} {whole : Dirs → List (List ℕ)} {fault : LoadFault} → mid ≡ before → HasStopped At mid now reached old whole fault →
    HasStopped At before now reached old whole fault
stopped_here {At = At} {now = now} {reached = reached} {old = old} {whole = whole} {fault = fault} same one = subst (λ (v : View). HasStopped At v now reached old whole fault) same one

-- ---- those of a line
pub closed_all : (dirs : Dirs) (order : List (List ℕ)) → IsClosed dirs order → IsClosedBut dirs order []
closed_all dirs order closed d p in_ parent = on_left _ _ (closed d p in_ parent)

module _ {before now : View} {reached : Reached} {old : Seen} (o : Option (List ℕ)) (dir : List ℕ) (is : o ≡ Some dir) where
  pub line_gone : {new : Seen} {r : Reached} → HasGone before now reached old new (dir ∷ []) (λ dirs. reach_below dirs 0 reached.order dir) [] r →
      HasGone before now reached old new [] (λ dirs. from_line dirs reached.order o) [] r
  line_gone one = record {
    same = one.same;
    knows = one.knows;
    indexed = one.indexed;
    passed = one.passed;
    dirs = one.dirs;
    value = λ t. let dirs = dir_at (look_in before.told) in record {
      ends = (one.value t).ends ∙ sym (ap (from_line dirs reached.order) is);
      closed = λ closed. (one.value t).closed (closed_start dirs reached.order dir (closed_end dirs reached.order [] refl closed));
    };
  }

  pub line_stopped : {At : List ℕ → Type 0} {fault : LoadFault} → HasStopped At before now reached old (λ dirs. reach_below dirs 0 reached.order dir) fault → HasStopped At before now reached old (λ dirs. from_line dirs reached.order o) fault
  line_stopped {At = At} {fault = fault} one = subst (λ (a : Option (List ℕ)). HasStopped At before now reached old (λ dirs. from_line dirs reached.order a) fault) (sym is) one
