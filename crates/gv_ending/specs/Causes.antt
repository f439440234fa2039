-- Why a run, or a step of it, has no answer: by what refuses it.
use Rattle.std.specs.Prelude.{◌≡◌, ℕ, List, true, ◌⊎◌}
use Rattle.gv_base.specs.Causes.{Rose}
use Rattle.gv_base.specs.Order.{has_text}
use Rattle.gv_reading.specs.declared.faults.LoadFault.{LoadFault}
use Rattle.gv_reading.specs.declared.faults.LoadFault.TheVariants as loads
use Rattle.gv_ending.specs.declared.refusal.Refusal.{Refusal}
use Rattle.gv_ending.specs.declared.refusal.Refusal.TheVariants.{BadWords, TreeFailed, StoreFailed, OutputFailed, Spent, NoMemory, NotARepository, Limit, InputFailed, BadCommand, Lacks}

-- what is so where the tree fails, where the store fails at a path, where the input fails or has no command to go on with, where the
-- output fails, where the files don't load, where a query is refused, and where memory is wanted
pub record Causes : Type 1 where
  pub tree : Type 0
  pub store : (path : List ℕ) → Type 0
  pub input : Refusal → Type 0
  pub output : Type 0
  pub files : LoadFault → Type 0
  pub queries : Refusal → Type 0
  pub memory : Type 0

-- what is so where the refusal is this one; bad words are none of a command's
abbrev pub Why : Causes → Refusal → Type 0
Why c (TreeFailed path) = c.tree
Why c (StoreFailed path) = c.store path
Why c OutputFailed = c.output
Why c InputFailed = c.input InputFailed
Why c (BadCommand number) = c.input (BadCommand number)
Why c (NotARepository path) = c.files (loads.NotARepository path)
Why c (Spent name) = c.queries (Spent name)
Why c (Lacks part parts query) = c.queries (Lacks part parts query)
Why c (Limit place number) = c.files (loads.Limit place number) ⊎ (c.queries (Limit place number) ⊎ c.input (Limit place number))
Why c NoMemory = c.memory
Why c BadWords = ⊥

-- ---- causes of steps, of which only some can come

abbrev pub no_path : List ℕ → Type 0
no_path path = ⊥

abbrev pub no_fault : LoadFault → Type 0
no_fault fault = ⊥

abbrev pub no_refusal : Refusal → Type 0
no_refusal refusal = ⊥

-- nothing but this, and want of memory
abbrev pub of_store : (List ℕ → Type 0) → Causes
of_store Store = record { tree = ⊥; store = Store; input = no_refusal; output = ⊥; files = no_fault; queries = no_refusal; memory = Unit {0} }

abbrev pub of_input : (Refusal → Type 0) → Causes
of_input Input = record { tree = ⊥; store = no_path; input = Input; output = ⊥; files = no_fault; queries = no_refusal; memory = Unit {0} }

abbrev pub of_output : Type 0 → Causes
of_output Output = record { tree = ⊥; store = no_path; input = no_refusal; output = Output; files = no_fault; queries = no_refusal; memory = Unit {0} }

abbrev pub of_queries : (Refusal → Type 0) → Causes
of_queries Queries = record { tree = ⊥; store = no_path; input = no_refusal; output = ⊥; files = no_fault; queries = Queries; memory = Unit {0} }

-- nothing but these two, and want of memory
abbrev pub of_reading : (Tree : Type 0) → (LoadFault → Type 0) → Causes
of_reading Tree Files = record { tree = Tree; store = no_path; input = no_refusal; output = ⊥; files = Files; queries = no_refusal; memory = Unit {0} }

-- these three
abbrev pub of_judging : (Tree : Type 0) → (LoadFault → Type 0) → (Refusal → Type 0) → Causes
of_judging Tree Files Queries = record { tree = Tree; store = no_path; input = no_refusal; output = ⊥; files = Files; queries = Queries; memory = Unit {0} }

-- ---- faults of the store

-- it failed at this path
abbrev pub FailsAt : (file : List ℕ) → (before now : ℕ) → (path : List ℕ) → Type 0
FailsAt file before now path = (path ≡ file) × Rose before now

-- it failed at one of these
abbrev pub FailsAtOne : (files : List (List ℕ)) → (before now : ℕ) → (path : List ℕ) → Type 0
FailsAtOne files before now path = (has_text files path ≡ true) × Rose before now
