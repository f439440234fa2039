-- From the summary of a demo to what the run leaves.
use Rattle.std.proofs.Common.{◌≡◌, ℕ, ◌≤◌, false, List, [], refl, ap, subst, ◌∙◌, inl, inr, arith}
use Rattle.std.specs.Prelude.{Option, Some, Ok, Err, IfOk, IfErr, length, ◌⊎◌}
use Rattle.gv_base.specs.Causes.{Rose}
use Rattle.gv_base.specs.Counts.{Counts}
use Rattle.gv_base.specs.FileMap.{FileMap}
use Rattle.gv_base.specs.Outside.{gains}
use Rattle.gv_demo.specs.Files.{demo}
use Rattle.gv_load.specs.declared.loading.Repo.{Repo}
use Rattle.gv_load.specs.Loading.{loading}
use Rattle.gv_reading.specs.Look.{look_of}
use Rattle.gv_report.specs.declared.keyword.Takers.TheVariants.{Judging}
use Rattle.gv_report.specs.declared.options.Options.{Options}
use Rattle.gv_report.specs.Emitted.{emitted}
use Rattle.gv_words.specs.Command.{settings, settings_of}
use Rattle.gv_checks.specs.Answered.{IsJudged}
use Rattle.gv_checks.specs.Queries.{queries}
use Rattle.gv_checks.specs.RepoReports.{scan_text}
use Rattle.gv_checks.specs.declared.whole.Judged.{Judged}
use Rattle.gv_words.specs.Command.{IsCommand, IsOneCommand}
use Rattle.gv_words.specs.declared.command.Command.TheVariants as commands
use Rattle.gv_ending.specs.declared.refusal.Refusal.{Refusal}
use Rattle.gv_ending.specs.declared.refusal.Refusal.TheVariants.{OutputFailed, NoMemory, Limit}
use Rattle.gv_ending.specs.Causes.{Why, of_output}
use Rattle.gv_ending.specs.Endings.{Ending, GainsFront, SaysNothing, TellsRefusal, Told, well_status}
use Rattle.gv_run.specs.Performs.{Performs, Runs}
use Rattle.gv_run.specs.Summary.{CutsSummary, IsSummary, demo_causes, summary_text}
use Rattle.gv_ending.specs.World.{Fed, Roots, World, world}
use Rattle.gv_run.proofs.AnswerLemmas.{PickedLaw, text_is}
use Rattle.gv_run.proofs.Performed.{Ends, ends, five_only, or_five, or_unbegun}
use Rattle.gv_run.proofs.Whys.{from_output}

-- the text of what was judged
pub is_text : PickedLaw → (options : Options) (repo : Repo) (before now : Counts) (judged : Judged) (text : List ℕ) →
    IsJudged options [] repo before now judged → text ≡ emitted options judged.reports → text ≡ scan_text options repo
is_text law options repo before now judged text is told = told ∙ (ap (emitted options) is.reports_are ∙ text_is law options repo)

pub is_summary : (number : ℕ) (options : Options) (repo : Repo) (text summary : List ℕ) →
    settings Judging [] ≡ Some (settings_of options) → loading (look_of (demo number)) ≡ Ok repo → length repo.pkgs ≡ 1000 → length (queries options repo) ≡ 12000 →
    text ≡ scan_text options repo → summary ≡ summary_text text → IsSummary number summary
is_summary number options repo text summary defaults loaded packages queries_are told sums = record {
  options = options;
  defaults = defaults;
  repo = repo;
  loaded = loaded;
  packages = packages;
  queries_are = queries_are;
  text_is = sums ∙ ap summary_text told;
}

module _ (input : Fed) (number : ℕ) (f : Option FileMap) (t : ℕ) (k : Option FileMap) (kb : ℕ) (c c' : Counts) (o : Option (List ℕ)) (ob : ℕ) where
  abbrev before : World
  before = world f t k kb o ob c

  module _ (o' : Option (List ℕ)) (on : ℕ) (summary : List ℕ) (is : IsSummary number summary) (later : ob ≤ on) where
    abbrev now : World
    now = world f t k kb o' on c'

    pub summed : o' ≡ gains o summary → on ≡ ob → Performs (commands.Demo number) before now input (Ok false)
    summed out calm = record {
      done = record { summary = summary; is = is; out = out; calm = calm; status_is = refl };
      refusal = tt;
      spares = (refl, (refl, refl));
      lasts = record { files = refl; tree = omega arith; store = omega arith; out = later };
    }

    pub cut : GainsFront o o' summary → (refusal : Refusal) → Why (of_output (Rose ob on)) refusal → Performs (commands.Demo number) before now input (Err refusal)
    cut front refusal why =
        let cuts : CutsSummary number before now = record { summary = summary; is = is; front = front } in
        record {
          done = tt;
          refusal = from_output (Rose ob on) (demo_causes number before now) (λ rose. (cuts, rose)) (inr cuts) refusal why;
          spares = (refl, (refl, refl));
          lasts = record { files = refl; tree = omega arith; store = omega arith; out = later };
        }

  pub unsummed : Performs (commands.Demo number) before (world f t k kb o ob c') input (Err NoMemory)
  unsummed = record {
    done = tt;
    refusal = inl (refl, refl);
    spares = (refl, (refl, refl));
    lasts = record { files = refl; tree = omega arith; store = omega arith; out = omega arith };
  }

-- ---- words of a demo and no fault give its summary

module _ (law : IsOneCommand) (words : List (List ℕ)) (entry : Roots) (old new : World) (input : Fed) (number : ℕ) (is : IsCommand words (commands.Demo number)) (status : ℕ) (out : Rose old.out_faults new.out_faults → ⊥)
    (err : Told) where
  refused_demo : (refusal : Refusal) → Why (demo_causes number old new) refusal → TellsRefusal err refusal status → (status ≡ 0) ⊎ (status ≡ 5)
  refused_demo OutputFailed why tells = absurd (out why.1)
  refused_demo NoMemory why tells = inr (five_only status (or_five err NoMemory status tells))
  refused_demo (Limit place number) (inl why) tells = absurd why
  refused_demo (Limit place number) (inr (inl why)) tells = absurd why
  refused_demo (Limit place number) (inr (inr why)) tells = absurd why
  refused_demo other why tells = absurd why

  ends_demo : (ending : Ending) → Ends (commands.Demo number) entry old new input ending → IfOk ending (λ some. (status ≡ well_status some) × SaysNothing err)
      → IfErr ending (λ refusal. TellsRefusal err refusal status) → (status ≡ 0) ⊎ (status ≡ 5)
  ends_demo (Ok some) ends well refused = inl (well.0 ∙ ends.done.status_is)
  ends_demo (Err refusal) ends well refused = or_unbegun entry old new err (demo_causes number old new) refusal status ((status ≡ 0) ⊎ (status ≡ 5)) (λ five. inr five) (λ why. refused_demo refusal why refused) refused ends.refusal

  pub complete_demo : (ending : Ending) → Runs words entry old new input ending → IfOk ending (λ some. (status ≡ well_status some) × SaysNothing err) → IfErr ending (λ refusal. TellsRefusal err refusal status)
      → (status ≡ 0) ⊎ (status ≡ 5)
  complete_demo ending runs well refused = ends_demo ending (ends law words entry old new input (commands.Demo number) is ending runs) well refused
