-- The outside of a run before and after it.
use Rattle.std.specs.Prelude.{◌≡◌, ◌≤◌, ℕ, List, Option, Some, None}
use Rattle.gv_base.specs.Counts.{Counts}
use Rattle.gv_base.specs.FileMap.{FileMap}

-- what the tree tells, what the store and the output hold, how often each failed, and how often each kind of work was done
pub record World : Type 0 where
  pub files : Option FileMap
  pub tree_faults : ℕ
  pub kept : Option FileMap
  pub store_faults : ℕ
  pub out : Option (List ℕ)
  pub out_faults : ℕ
  pub counts : Counts

abbrev pub world : Option FileMap → ℕ → Option FileMap → ℕ → Option (List ℕ) → ℕ → Counts → World
world files tree_faults kept store_faults out out_faults counts = record {
  files = files;
  tree_faults = tree_faults;
  kept = kept;
  store_faults = store_faults;
  out = out;
  out_faults = out_faults;
  counts = counts;
}

-- what was left of the input and is left of it, where this is told, and how often it had failed and has
pub record Fed : Type 0 where
  pub old : Option (List ℕ)
  pub new : Option (List ℕ)
  pub before : ℕ
  pub now : ℕ

abbrev pub fed : Option (List ℕ) → Option (List ℕ) → ℕ → ℕ → Fed
fed old new before now = record { old = old; new = new; before = before; now = now }

-- the tree didn't fail
abbrev pub SameTree : World → World → Type 0
SameTree old new = new.tree_faults ≡ old.tree_faults

-- the store didn't fail
abbrev pub CalmStore : World → World → Type 0
CalmStore old new = new.store_faults ≡ old.store_faults

-- the store holds what it held, and didn't fail
abbrev pub SameStore : World → World → Type 0
SameStore old new = (new.kept ≡ old.kept) × CalmStore old new

-- nothing was written, and the output didn't fail
abbrev pub SameOut : World → World → Type 0
SameOut old new = (new.out ≡ old.out) × (new.out_faults ≡ old.out_faults)

-- no query was asked
abbrev pub SameSteps : World → World → Type 0
SameSteps old new = new.counts ≡ old.counts

-- neither the store nor the output was touched
pub record Untouched (old new : World) : Type 0 where
  pub store : SameStore old new
  pub out : SameOut old new

-- the input didn't fail
abbrev pub CalmInput : Fed → Type 0
CalmInput input = input.now ≡ input.before

-- neither the tree nor the input failed
abbrev pub Calm : World → World → Fed → Type 0
Calm old new input = SameTree old new × CalmInput input

-- the files are never changed, and no count of faults falls
pub record Lasts (old new : World) : Type 0 where
  pub files : new.files ≡ old.files
  pub tree : old.tree_faults ≤ new.tree_faults
  pub store : old.store_faults ≤ new.store_faults
  pub out : old.out_faults ≤ new.out_faults

-- the root that the tree was entered at before, and is
pub record Roots : Type 0 where
  pub old : Option (List ℕ)
  pub new : Option (List ℕ)

abbrev pub roots : (old new : Option (List ℕ)) → Roots
roots old new = record { old = old; new = new }

-- a command's folder, and where it has none the one before
abbrev pub entered : (of : Option (List ℕ)) → (before : Option (List ℕ)) → Option (List ℕ)
entered None before = before
entered (Some root) before = Some root
