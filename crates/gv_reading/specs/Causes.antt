-- Words of private contracts alone, no rule: what reading by some steps comes to, and why it was refused.
use Rattle.std.specs.Borrow.{GName}
use Rattle.std.specs.Prelude.{◌≡◌, ◌≤◌, ℕ, List, true, Option, unwrap_or, Some, Result, Ok, Err}
use Rattle.std.specs.Option.{is_some}
use Rattle.std.specs.FinMap.{empty, get}
use Rattle.gv_base.specs.FileMap.{FileMap}
use Rattle.gv_reading.specs.Look.{Look, look_of}
use Rattle.gv_base.specs.Causes.{Rose}
use Rattle.gv_base.specs.declared.tree.Found.{Found}
use Rattle.gv_reading.specs.declared.faults.LoadFault.{LoadFault}
use Rattle.gv_reading.specs.declared.faults.LoadFault.TheVariants.{Tree, NotARepository, Limit, NoMemory}
use Rattle.gv_reading.specs.Reader.{Seen}
use Rattle.gv_reading.specs.Reading.{IsAsked, Out, Step, passed}

-- whether the files of a tree are told, and what can be seen of them then
abbrev pub IsTold : Option FileMap → Type 0
IsTold told = is_some told ≡ true

unfoldable pub look_in : Option FileMap → Look
look_in told = look_of (unwrap_or told empty)

-- what a tree tells besides its files and its count of faults: the root that was entered, and the trees that it works through
abbrev pub Around : Type 0
Around = Option (List ℕ) × List (GName × Option FileMap)

abbrev pub around : Option (List ℕ) → List (GName × Option FileMap) → Around
around entered lent = (entered, lent)

-- a fault of the tree comes with a count that rose. Another refusal comes with a count that stands, and is that of the
-- files where they are told
abbrev pub Cause : Option FileMap → ℕ → ℕ → Out → LoadFault → Type 0
Cause told before now out NoMemory = Unit {0}
Cause told before now out (Tree path) = Rose before now
Cause told before now out (NotARepository path) = (now ≡ before) × (IsTold told → out ≡ Err (NotARepository path))
Cause told before now out (Limit place number) = (now ≡ before) × (IsTold told → out ≡ Err (Limit place number))

-- where the fault is one of the tree, its path is such a one
abbrev pub IsOfPath : (List ℕ → Type 0) → LoadFault → Type 0
IsOfPath Fits NoMemory = Unit {0}
IsOfPath Fits (Tree path) = Fits path
IsOfPath Fits (NotARepository path) = Unit {0}
IsOfPath Fits (Limit place number) = Unit {0}

-- what was read is what can be seen
abbrev pub Agrees : Look → Seen → Type 0
Agrees look seen = (path : List ℕ) (found : Found) → get seen.known path ≡ Some found → found ≡ look.found path

unfoldable pub Knows : Option FileMap → Seen → Type 0
Knows told seen = IsTold told → Agrees (look_in told) seen

-- what is seen of a tree: its files where they are told, how often it failed, and what is around it
pub record View : Type 0 where
  pub told : Option FileMap
  pub faults : ℕ
  pub around : Around

abbrev pub view : {T : Type 0} → (T → Option FileMap) → (T → ℕ) → (T → Option (List ℕ)) → (T → List (GName × Option FileMap)) → T → View
view files faults entered lent tree = record { told = files tree; faults = faults tree; around = around (entered tree) (lent tree) }

-- the steps were taken without a refusal: the tree is as before, and where its files are told the steps lead to what was
-- read by now, and the value is that of the files
pub record HasRead (before now : View) (steps : Look → List Step) (Value : Look → Type 0) (old new : Seen) : Type 0 where
  pub same : now ≡ before
  pub knows : Knows before.told new
  pub passed : IsTold before.told → passed (look_in before.told) old (steps (look_in before.told)) ≡ Ok new
  pub value : IsTold before.told → Value (look_in before.told)

-- reading ended at a fault, one of the tree where a step asked it that comes behind steps that pass, and where its last call that failed
-- was made
pub record HasEnded (At : List ℕ → Type 0) (before now : View) (steps : Look → List Step) (old : Seen) (fault : LoadFault) : Type 0 where
  pub told : now.told ≡ before.told
  pub around : now.around ≡ before.around
  pub later : before.faults ≤ now.faults
  pub cause : Cause before.told before.faults now.faults (passed (look_in before.told) old (steps (look_in before.told))) fault
  pub asked : IsOfPath (λ path. IsTold before.told → IsAsked (look_in before.told) old (steps (look_in before.told)) path) fault
  pub here : IsOfPath At fault

-- what a reading by these steps comes to
abbrev pub Reads : {T V : Type 0} → (T → List ℕ → Type 0) → (T → View) → (before now : T) → (Look → List Step) → (Look → V → Type 0) → (old new : Seen) → Result V LoadFault → Type 0
Reads failed_at see before now steps Value old new (Ok v) = HasRead (see before) (see now) steps (λ look. Value look v) old new
Reads failed_at see before now steps Value old new (Err fault) = HasEnded (failed_at now) (see before) (see now) steps old fault
