-- The summary of a demo repository, and what a run of `demo` leaves.
use Rattle.std.specs.Prelude.{◌≡◌, ◌⊎◌, ℕ, ◌+◌, ◌==◌, if◌then◌else◌, List, [], ◌∷◌, ◌++◌, length, codes, decimal, Some, Ok}
use Rattle.gv_base.specs.Causes.{Rose}
use Rattle.gv_base.specs.Outside.{gains}
use Rattle.gv_demo.specs.Files.{demo}
use Rattle.gv_load.specs.declared.loading.Repo.{Repo}
use Rattle.gv_load.specs.Loading.{loading}
use Rattle.gv_reading.specs.Look.{look_of}
use Rattle.gv_report.specs.declared.keyword.Takers.TheVariants.{Judging}
use Rattle.gv_report.specs.declared.options.Options.{Options}
use Rattle.gv_words.specs.Command.{settings, settings_of}
use Rattle.gv_checks.specs.Queries.{queries}
use Rattle.gv_checks.specs.RepoReports.{scan_text}
use Rattle.gv_ending.specs.Causes.{Causes, no_fault, no_path, no_refusal}
use Rattle.gv_ending.specs.Endings.{GainsFront}
use Rattle.gv_ending.specs.World.{SameOut, World}

-- how many lines a text has, each of which ends with a line feed
abbrev pub line_count : List ℕ → ℕ
line_count [] = 0
line_count (b ∷ bs) = (if b == 10 then 1 else 0) + line_count bs

-- the four lines
abbrev pub summary_text : List ℕ → List ℕ
summary_text text =
    codes "packages 1000\nqueries 12000\nreports " ++ (decimal (line_count text) ++ (codes "\nbytes " ++ (decimal (length text) ++ codes "\n")))

-- the summary of what a number draws: a repository of a thousand packages, with as many queries as it says, and the text
-- of its scan where no option is given
pub record IsSummary (number : ℕ) (summary : List ℕ) : Type 0 where
  pub options : Options
  pub defaults : settings Judging [] ≡ Some (settings_of options)
  pub repo : Repo
  pub loaded : loading (look_of (demo number)) ≡ Ok repo
  pub packages : length repo.pkgs ≡ 1000
  pub queries_are : length (queries options repo) ≡ 12000
  pub text_is : summary ≡ summary_text (scan_text options repo)

-- the output gained exactly the summary
pub record Summarises (number : ℕ) (old new : World) (status : ℕ) : Type 0 where
  pub summary : List ℕ
  pub is : IsSummary number summary
  pub out : new.out ≡ gains old.out summary
  pub calm : new.out_faults ≡ old.out_faults
  pub status_is : status ≡ 0

-- it gained some first bytes of the summary
pub record CutsSummary (number : ℕ) (old new : World) : Type 0 where
  pub summary : List ℕ
  pub is : IsSummary number summary
  pub front : GainsFront old.out new.out summary

-- why a demo has none, and what it leaves then
abbrev pub demo_causes : (number : ℕ) → World → World → Causes
demo_causes number old new = record {
  tree = ⊥;
  store = no_path;
  input = no_refusal;
  output = CutsSummary number old new × Rose old.out_faults new.out_faults;
  files = no_fault;
  queries = no_refusal;
  memory = SameOut old new ⊎ CutsSummary number old new;
}
