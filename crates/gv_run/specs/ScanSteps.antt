-- How the steps of a scan end: no public contract rests on these words.
use Rattle.std.specs.Prelude.{◌≡◌, ℕ, List, Bool, not, Option, ◌⊎◌}
use Rattle.std.specs.FinMap as map
use Rattle.std.specs.Option.{option_map}
use Rattle.gv_base.specs.Causes.{Rose}
use Rattle.gv_base.specs.Counts.{Counts}
use Rattle.gv_base.specs.FileMap.{FileMap}
use Rattle.gv_base.specs.Outside.{gains}
use Rattle.gv_base.specs.Words.{is_empty}
use Rattle.gv_cert.specs.Known.{KnownRecord}
use Rattle.gv_load.specs.declared.loading.Repo.{Repo}
use Rattle.gv_reading.specs.declared.faults.LoadFault.{LoadFault}
use Rattle.gv_checks.specs.Certs.{Cert}
use Rattle.gv_checks.specs.Queries.{Query}
use Rattle.gv_run.specs.declared.answering.Answers.{Answers}
use Rattle.gv_ending.specs.declared.refusal.Refusal.{Refusal}
use Rattle.gv_ending.specs.Causes.{Causes, FailsAt, no_fault, no_refusal, of_judging}
use Rattle.gv_ending.specs.Endings.{GainsFront}
use Rattle.gv_run.specs.Naming.{TellsFirst}
use Rattle.gv_run.specs.Scan.{IsUnloaded}
use Rattle.gv_run.specs.Scanning.{AreAnswered, IsUnasked, Scanning, certs_file}

-- ---- reading

-- loading was refused so, and the tree didn't fail
abbrev pub IsUnreadBy : (Unloads : LoadFault → Type 0) → (before now : ℕ) → LoadFault → Type 0
IsUnreadBy Unloads before now fault = (now ≡ before) × Unloads fault

abbrev pub IsUnread : Option FileMap → (before now : ℕ) → LoadFault → Type 0
IsUnread told before now fault = IsUnreadBy (IsUnloaded told) before now fault

-- ---- judging

-- a query of these is refused so
abbrev pub IsUnanswered : (budget : ℕ) → (given : List KnownRecord) → Repo → List Query → Refusal → Type 0
IsUnanswered budget given repo qs refusal = TellsFirst budget given qs repo refusal

-- the file of certificates of these queries
pub record IsFileOf (budget : ℕ) (given : List KnownRecord) (qs : List Query) (before now : Counts) (file : List ℕ) : Type 0 where
  pub certs : List Cert
  pub are : AreAnswered budget given qs before now certs
  pub file_is : file ≡ certs_file certs

-- a text, and the file of certificates of these queries
pub record AreAnswersOf (budget : ℕ) (given : List KnownRecord) (qs : List Query) (text : List ℕ) (before now : Counts) (answers : Answers) : Type 0 where
  pub certs : List Cert
  pub are : AreAnswered budget given qs before now certs
  pub text_is : answers.text ≡ text
  pub file_is : answers.file ≡ certs_file certs

-- ---- both

-- how the tree is left, and the counts of work
pub record Read : Type 0 where
  pub before : ℕ
  pub now : ℕ
  pub old : Counts
  pub new : Counts

abbrev pub reading : (before now : ℕ) → (old new : Counts) → Read
reading before now old new = record { before = before; now = now; old = old; new = new }

-- why there are no answers
abbrev pub answer_causes : Scanning → (given : List KnownRecord) → Read → Causes
answer_causes s given r =
    of_judging (Rose r.before r.now × (r.new ≡ r.old)) (λ fault. (r.now ≡ r.before) × ((r.new ≡ r.old) × s.Unloads fault)) (λ refusal. (r.now ≡ r.before) × IsUnasked s given refusal)

-- those of what was loaded
pub record HasAnswers (s : Scanning) (given : List KnownRecord) (r : Read) (answers : Answers) : Type 0 where
  pub calm : r.now ≡ r.before
  pub of : s.Of
  pub loaded : s.Loads of
  pub are : AreAnswersOf s.budget given (s.asks of) (s.prints of) r.old r.new answers

-- ---- writing

-- how store and output are left
pub record Written : Type 0 where
  pub kept : Option FileMap
  pub kept' : Option FileMap
  pub kept_before : ℕ
  pub kept_now : ℕ
  pub out : Option (List ℕ)
  pub out' : Option (List ℕ)
  pub out_before : ℕ
  pub out_now : ℕ

abbrev pub writing : (kept kept' : Option FileMap) → (kept_before kept_now : ℕ) → (out out' : Option (List ℕ)) → (out_before out_now : ℕ) → Written
writing kept kept' kept_before kept_now out out' out_before out_now = record {
  kept = kept;
  kept' = kept';
  kept_before = kept_before;
  kept_now = kept_now;
  out = out;
  out' = out';
  out_before = out_before;
  out_now = out_now;
}

-- the file stands at its path and the store didn't fail
pub record IsKept (path file : List ℕ) (w : Written) : Type 0 where
  pub kept : w.kept' ≡ option_map (λ files. map.insert files path file) w.kept
  pub calm : w.kept_now ≡ w.kept_before

-- it doesn't, and nothing was written
pub record IsUnkept (path : List ℕ) (w : Written) : Type 0 where
  pub others : option_map (λ files. map.remove files path) w.kept' ≡ option_map (λ files. map.remove files path) w.kept
  pub out : w.out' ≡ w.out
  pub out_calm : w.out_now ≡ w.out_before

-- why both weren't written
abbrev pub leave_causes : (path : List ℕ) → Answers → Written → Causes
leave_causes path answers w = record {
  tree = ⊥;
  store = λ place. FailsAt path w.kept_before w.kept_now place × IsUnkept path w;
  input = no_refusal;
  output = Rose w.out_before w.out_now × (IsKept path answers.file w × GainsFront w.out w.out' answers.text);
  files = no_fault;
  queries = no_refusal;
  memory = IsUnkept path w ⊎ (IsKept path answers.file w × GainsFront w.out w.out' answers.text);
}

-- both were
pub record HasLeft (path : List ℕ) (answers : Answers) (w : Written) (some : Bool) : Type 0 where
  pub kept : IsKept path answers.file w
  pub out : w.out' ≡ gains w.out answers.text
  pub calm : w.out_now ≡ w.out_before
  pub some_is : some ≡ not (is_empty answers.text)
