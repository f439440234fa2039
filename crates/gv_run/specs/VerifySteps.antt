-- How the steps of a verification end: no public contract rests on these words.
use Rattle.std.specs.Prelude.{◌≡◌, ◌⊎◌, ℕ, List, Option}
use Rattle.gv_base.specs.Causes.{Rose}
use Rattle.gv_base.specs.Counts.{Counts}
use Rattle.gv_base.specs.FileMap.{FileMap}
use Rattle.gv_cert.specs.Known.{KnownRecord}
use Rattle.gv_load.specs.declared.loading.Repo.{Repo}
use Rattle.gv_report.specs.declared.options.Options.{Options}
use Rattle.gv_checks.specs.Queries.{queries}
use Rattle.gv_checks.specs.Recalled.{IsNotRecalled}
use Rattle.gv_checks.specs.declared.recalled.RecallFault.TheVariants as recalling
use Rattle.gv_words.specs.declared.command.Verification.{Verification}
use Rattle.gv_ending.specs.declared.refusal.Refusal.{Refusal}
use Rattle.gv_ending.specs.declared.refusal.Refusal.TheVariants.{Limit}
use Rattle.gv_run.specs.declared.verdict.Verdict.{Verdict}
use Rattle.gv_ending.specs.Causes.{Causes, no_refusal}
use Rattle.gv_run.specs.Scan.{IsLoaded, IsUnloaded}
use Rattle.gv_run.specs.Verify.{AreFetched, IsVerdict, TellsPast}

-- why a file wasn't fetched
abbrev pub IsUntaken : Verification → (before now : ℕ) → (path : List ℕ) → Type 0
IsUntaken v before now path = ((path ≡ v.certs) ⊎ (path ≡ v.report)) × Rose before now

-- why there is no verdict on a repository that was loaded
abbrev pub IsUnheld : Options → (given : List KnownRecord) → Repo → Refusal → Type 0
IsUnheld options given repo (Limit place number) = IsNotRecalled given (queries options repo) (recalling.Limit place number)
IsUnheld options given repo other = ⊥

-- how tree and store are left, and the counts of work
pub record Sought : Type 0 where
  pub told : Option FileMap
  pub tree_before : ℕ
  pub tree_now : ℕ
  pub kept : Option FileMap
  pub store_before : ℕ
  pub store_now : ℕ
  pub old : Counts
  pub new : Counts

abbrev pub seeking : Option FileMap → (tree_before tree_now : ℕ) → Option FileMap → (store_before store_now : ℕ) → (old new : Counts) → Sought
seeking told tree_before tree_now kept store_before store_now old new = record {
  told = told;
  tree_before = tree_before;
  tree_now = tree_now;
  kept = kept;
  store_before = store_before;
  store_now = store_now;
  old = old;
  new = new;
}

-- the verdict on what was fetched and loaded
pub record IsFound (v : Verification) (s : Sought) (verdict : Verdict) : Type 0 where
  pub tree : s.tree_now ≡ s.tree_before
  pub store : s.store_now ≡ s.store_before
  pub repo : Repo
  pub given : List KnownRecord
  pub report : List ℕ
  pub loaded : IsLoaded s.told repo
  pub fetched : AreFetched v s.kept given report
  pub is : IsVerdict v.options given repo report verdict

-- why there is none
abbrev pub find_causes : Verification → Sought → Causes
find_causes v s = record {
  tree = (s.store_now ≡ s.store_before) × (Rose s.tree_before s.tree_now × (s.new ≡ s.old));
  store = λ path. ((path ≡ v.certs) ⊎ (path ≡ v.report)) × (Rose s.store_before s.store_now × ((s.tree_now ≡ s.tree_before) × (s.new ≡ s.old)));
  input = no_refusal;
  output = ⊥;
  files = λ fault. (s.store_now ≡ s.store_before) × ((s.tree_now ≡ s.tree_before) × ((s.new ≡ s.old) × IsUnloaded s.told fault));
  queries = λ refusal. (s.store_now ≡ s.store_before) × ((s.tree_now ≡ s.tree_before) × TellsPast v s.told s.kept refusal);
  memory = Unit {0};
}
