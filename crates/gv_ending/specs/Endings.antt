-- How a run ends: its status, and the line that says why there is no answer.
use Rattle.std.specs.Prelude.{◌≡◌, ℕ, ◌==◌, List, [], ◌∷◌, ◌++◌, Bool, Option, Result, take, codes, decimal, if◌then◌else◌, ◌⊎◌}
use Rattle.std.specs.List.{list_any}
use Rattle.gv_base.specs.Causes.{Rose}
use Rattle.gv_base.specs.Outside.{gains}
use Rattle.gv_ending.specs.declared.refusal.Refusal.{Refusal}
use Rattle.gv_ending.specs.declared.refusal.Refusal.TheVariants.{BadWords, TreeFailed, StoreFailed, OutputFailed, Spent, NoMemory, NotARepository, Limit, InputFailed, BadCommand, Lacks}

-- whether there is something to tell, or why there is no answer
abbrev pub Ending : Type 0
Ending = Result Bool Refusal

-- 0 without reports, 1 with some
abbrev pub well_status : Bool → ℕ
well_status some = if some then 1 else 0

abbrev pub refusal_status : Refusal → ℕ
refusal_status BadWords = 2
refusal_status (TreeFailed path) = 3
refusal_status (StoreFailed path) = 3
refusal_status OutputFailed = 3
refusal_status (Spent name) = 4
refusal_status NoMemory = 5
refusal_status (NotARepository path) = 6
refusal_status (Limit place number) = 7
refusal_status InputFailed = 3
refusal_status (BadCommand number) = 8
refusal_status (Lacks part parts query) = 10

-- no run ends with another status
abbrev pub is_status : ℕ → Bool
is_status status = list_any (λ s. s == status) (0 ∷ 1 ∷ 2 ∷ 3 ∷ 4 ∷ 5 ∷ 6 ∷ 7 ∷ 8 ∷ 10 ∷ [])

abbrev pub refusal_text : Refusal → List ℕ
refusal_text BadWords = codes "gvis: bad command line"
refusal_text (TreeFailed path) = codes "gvis: fault: tree " ++ path
refusal_text (StoreFailed path) = codes "gvis: fault: store " ++ path
refusal_text OutputFailed = codes "gvis: fault: output"
refusal_text (Spent name) = codes "gvis: budget spent: " ++ name
refusal_text NoMemory = codes "gvis: out of memory"
refusal_text (NotARepository path) = codes "gvis: not a repository: " ++ path
refusal_text (Limit place number) = codes "gvis: limit: " ++ (place ++ (codes " " ++ decimal number))
refusal_text InputFailed = codes "gvis: fault: input"
refusal_text (BadCommand number) = codes "gvis: bad script: command " ++ decimal number
refusal_text (Lacks part parts query) = codes "gvis: part " ++ (decimal part ++ (codes "/" ++ (decimal parts ++ (codes " lacks query " ++ decimal query))))

-- with its line feed
abbrev pub refusal_line : Refusal → List ℕ
refusal_line refusal = refusal_text refusal ++ 10 ∷ []

-- what a sink held before and holds afterwards, and how often it had failed and has
pub record Told : Type 0 where
  pub old : Option (List ℕ)
  pub new : Option (List ℕ)
  pub before : ℕ
  pub now : ℕ

abbrev pub told : Option (List ℕ) → Option (List ℕ) → ℕ → ℕ → Told
told old new before now = record { old = old; new = new; before = before; now = now }

-- the sink is as it was
abbrev pub SaysNothing : Told → Type 0
SaysNothing sink = (sink.new ≡ sink.old) × (sink.now ≡ sink.before)

-- the held bytes grew by some first bytes of the text
abbrev pub GainsFront : Option (List ℕ) → Option (List ℕ) → List ℕ → Type 0
GainsFront old new text = (n : ℕ) × (new ≡ gains old (take n text))

-- the sink gained this line and didn't fail; or it failed, and gained some first bytes of the line
abbrev pub SaysLine : Told → List ℕ → Type 0
SaysLine sink line = ((sink.new ≡ gains sink.old line) × (sink.now ≡ sink.before)) ⊎ (GainsFront sink.old sink.new line × Rose sink.before sink.now)

-- how a refusal is told: by its line and its status; where memory is wanted, by some first bytes of its line and 5
pub record TellsRefusal (sink : Told) (refusal : Refusal) (status : ℕ) : Type 0 where
  pub whole : (SaysLine sink (refusal_line refusal) × (status ≡ refusal_status refusal)) ⊎ (status ≡ 5)
  pub front : GainsFront sink.old sink.new (refusal_line refusal)
