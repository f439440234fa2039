-- A path that is read once, counted and let go.
use Rattle.std.proofs.Common.{◌≡◌, ℕ, ◌≤◌, List, [], ◌∷◌, Some, None, sym, ap, ◌∙◌, refl}
use Rattle.std.specs.Prelude.{Option, Result, Ok, Err, IfOk, IfErr, OnOk}
use Rattle.std.specs.FinMap.{get}
use Rattle.gv_base.specs.ByteMap.{ByteMap}
use Rattle.gv_base.specs.FileMap.{FileMap}
use Rattle.gv_base.specs.declared.tree.Found.{Found}
use Rattle.gv_reading.specs.declared.faults.LoadFault.{LoadFault}
use Rattle.gv_reading.specs.Causes.{Cause, HasRead, IsOfPath, Knows, Reads, View, IsTold, look_in}
use Rattle.gv_reading.specs.Reader.{Seen}
use Rattle.gv_reading.specs.Reading.{Out, once, after_new, with_found}
use Rattle.gv_reading.specs.Passing.{path_of_one, same_cause, same_path, same_view}

pub found_before : (told : Option FileMap) (seen : Seen) (path : List ℕ) (found : Found) → Knows told seen → Some found ≡ get seen.known path → IsTold told → found ≡ (look_in told).found path
unfolding Knows
found_before told seen path found knows is t = knows t path found (sym is)

knows_same : (told : Option FileMap) (old new : Seen) → Knows told old → new.known ≡ old.known → Knows told new
unfolding Knows
knows_same told old new knows same = λ t path found is. knows t path found (ap (λ (m : ByteMap Found). get m path) (sym same) ∙ is)

-- a path that was read before
pub known_once : (at : View) (seen : Seen) (path : List ℕ) (found : Found) → Knows at.told seen → Some found ≡ get seen.known path → HasRead at at (λ look. once path ∷ []) (λ look. found ≡ look.found path) seen seen
known_once at seen path found knows there = record { same = refl; knows = knows; passed = λ t. rw (← there) refl; value = found_before at.told seen path found knows there }

-- a path that was not read before is counted
pub counted_once : {T : Type 0} (failed_at : T → List ℕ → Type 0) (see : T → View) (before now : T) (old new : Seen) (path : List ℕ) (result : Result Found LoadFault) → Knows (see before).told old → None ≡ get old.known path →
    IfOk result (λ found. IsTold (see before).told → found ≡ (look_in (see before).told).found path) → OnOk result (new.known ≡ old.known) →
    IfOk result (λ found. IsTold (see before).told → after_new (look_in (see before).told) old path ≡ Ok (with_found old path found new.found)) →
    IfErr result (Cause (see before).told (see before).faults (see now).faults (after_new (look_in (see before).told) old path)) → IfErr result (IsOfPath (λ p. path ≡ p)) → IfErr result (IsOfPath (failed_at now)) →
    (see now).told ≡ (see before).told → (see now).around ≡ (see before).around → (see before).faults ≤ (see now).faults → OnOk result ((see now).faults ≡ (see before).faults) →
    Reads failed_at see before now (λ look. once path ∷ []) (λ look found. found ≡ look.found path) old new result
counted_once failed_at see before now old new path (Ok found) knows fresh is same are cause asked here told around later calm = record {
  same = same_view (see before) (see now) told calm around;
  knows = knows_same (see before).told old new knows same;
  passed = λ t. rw (sym fresh, are t) (ap (λ (m : ByteMap Found). let o : Out = Ok (record { known = m; found = new.found }) in o) (sym same));
  value = is;
}
counted_once failed_at see before now old new path (Err fault) knows fresh is same are cause asked here told around later calm = record {
  told = told;
  around = around;
  later = later;
  cause = same_cause (see before).told (see before).faults (see now).faults _ _ fault (λ t f at. rw (sym fresh, at) refl) cause;
  asked = path_of_one (see before).told old (once path) fault (same_path fault (λ p is. (is, sym fresh)) asked);
  here = here;
}
