-- Words of private contracts alone, no rule: what reaching some directories more comes to.
use Rattle.std.specs.Prelude.{◌≡◌, ◌≤◌, List, ℕ, Result, Ok, Err}
use Rattle.gv_load.specs.Ahead.{IsIndexed, KeepsDirs, reached_after}
use Rattle.gv_load.specs.Closed.{IsClosedBut, paths_left}
use Rattle.gv_load.specs.Directories.{dir_at, steps_of}
use Rattle.gv_load.specs.Reaching.{Dirs}
use Rattle.gv_load.specs.declared.reaching.Ahead.{Ahead}
use Rattle.gv_load.specs.declared.reaching.Reached.{Reached}
use Rattle.gv_reading.specs.Causes.{Cause, IsOfPath, IsTold, Knows, View, look_in}
use Rattle.gv_reading.specs.Reader.{Seen}
use Rattle.gv_reading.specs.Reading.{IsAsked, passed}
use Rattle.gv_reading.specs.declared.faults.LoadFault.{LoadFault}

-- With these parents still ahead all will be reached in the end. Where what was reached was closed but for these paths, it is closed now
-- but for what is ahead
pub record LeadsOn (dirs : Dirs) (before r : Reached) (paths whole : List (List ℕ)) (ahead : List Ahead) : Type 0 where
  pub ends : reached_after dirs 0 ahead r.order ≡ whole
  pub closed : IsClosedBut dirs before.order paths → IsClosedBut dirs r.order (paths_left ahead)

-- more was reached, and the tree is as before
pub record HasGone (before now : View) (reached : Reached) (old new : Seen) (paths : List (List ℕ)) (whole : Dirs → List (List ℕ)) (ahead : List Ahead) (r : Reached) : Type 0 where
  pub same : now ≡ before
  pub knows : Knows before.told new
  pub indexed : IsIndexed r
  pub passed : (start : Seen) → IsTold before.told → passed (look_in before.told) start (steps_of (look_in before.told) reached.order) ≡ Ok old
      → passed (look_in before.told) start (steps_of (look_in before.told) r.order) ≡ Ok new
  pub dirs : IsTold before.told → KeepsDirs (look_in before.told) reached → KeepsDirs (look_in before.told) r
  pub value : IsTold before.told → LeadsOn (dir_at (look_in before.told)) reached r paths (whole (dir_at (look_in before.told))) ahead

-- a step of the whole was refused, and where the tree's last call that failed was made
pub record HasStopped (At : List ℕ → Type 0) (before now : View) (reached : Reached) (old : Seen) (whole : Dirs → List (List ℕ)) (fault : LoadFault) : Type 0 where
  pub told : now.told ≡ before.told
  pub around : now.around ≡ before.around
  pub later : before.faults ≤ now.faults
  pub cause : (start : Seen) → (IsTold before.told → passed (look_in before.told) start (steps_of (look_in before.told) reached.order) ≡ Ok old)
      → Cause before.told before.faults now.faults (passed (look_in before.told) start (steps_of (look_in before.told) (whole (dir_at (look_in before.told))))) fault
  pub asked : (start : Seen) → (IsTold before.told → passed (look_in before.told) start (steps_of (look_in before.told) reached.order) ≡ Ok old)
      → IsOfPath (λ path. IsTold before.told → IsAsked (look_in before.told) start (steps_of (look_in before.told) (whole (dir_at (look_in before.told)))) path) fault
  pub here : IsOfPath At fault

-- what reaching the paths comes to, where the whole of it is that, and these parents are ahead afterwards
abbrev pub Reaches : {T : Type 0} → (T → List ℕ → Type 0) → (T → View) → (before now : T) → (reached : Reached) → (paths : List (List ℕ)) → (whole : Dirs → List (List ℕ)) → (ahead : List Ahead)
    → (old new : Seen) → Result Reached LoadFault → Type 0
Reaches failed_at see before now reached paths whole ahead old new (Ok r) = HasGone (see before) (see now) reached old new paths whole ahead r
Reaches failed_at see before now reached paths whole ahead old new (Err fault) = HasStopped (failed_at now) (see before) (see now) reached old whole fault
