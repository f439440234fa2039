-- The overlay's packages are judged by a walk over all packages in which they are chosen.
use Rattle.std.proofs.Common.{◌≡◌, ℕ, List, Bool, ◌++◌, length, filter, sym, ap, subst, ◌∙◌}
use Rattle.std.specs.Prelude.{filter_map}
use Rattle.std.specs.Borrow.{Bor}
use Rattle.std.proofs.lemmas.List.Elements.{filter-append}
use Rattle.gv_base.specs.Counts.{Counts}
use Rattle.gv_cert.specs.Known.{KnownRecord}
use Rattle.gv_load.specs.declared.loading.Repo.{Repo}
use Rattle.gv_report.specs.Distinct.{ordered}
use Rattle.gv_report.specs.Selecting.{selected}
use Rattle.gv_report.specs.declared.options.Options.{Options}
use Rattle.gv_report.specs.declared.report.Report.{Report}
use Rattle.gv_checks.specs.Answers.{AreAnswers}
use Rattle.gv_checks.specs.Certs.{CountsAtMost}
use Rattle.gv_checks.specs.Chosen.{chosen, told_chosen}
use Rattle.gv_checks.specs.Limits.{RefusesFirst}
use Rattle.gv_checks.specs.Queries.{Query, queries}
use Rattle.gv_checks.specs.RepoReports.{query_report}
use Rattle.gv_checks.specs.SomePackages.{PackagesLaw, queries_on, reports_on}
use Rattle.gv_checks.specs.Views.{Walk}
use Rattle.gv_checks.specs.declared.chosen.Chosen.TheVariants.{Packages}
use Rattle.gv_checks.specs.declared.fault.JudgeFault.{JudgeFault}
use Rattle.gv_checks.specs.declared.walking.Answers.{Answers}
use Rattle.gv_checks.specs.declared.whole.Judged.{Judged}
use Rattle.gv_overlay.specs.Judged.{IsOwnJudged, overlay_queries}
use Rattle.gv_overlay.specs.declared.overlay.Overlay.{Overlay}

abbrev AllPackages : Type 0
AllPackages = (bits : Bor (List Bool)) (options : Options) (repo : Repo) → PackagesLaw bits options repo

-- ---- the walk
module _ (law : AllPackages) (bits : Bor (List Bool)) (o : Options) (repo : Repo) (b : ℕ) (given : List KnownRecord) where
  pub told_by : (start now : Counts) (a : Answers) → a.plain ≡ told_chosen (Packages bits) o repo → AreAnswers b given (chosen (Packages bits) (queries o repo)) start now a
      → a.plain ++ a.reports ≡ filter (selected o) (reports_on bits.now repo)
  told_by start now a plain are =
      ap (λ rs. rs ++ a.reports) plain
      ∙ (ap (λ rs. told_chosen (Packages bits) o repo ++ rs) (are.reports_are ∙ ap (filter_map query_report) (law bits o repo).queries_are)
      ∙ (law bits o repo).reports_are)

  pub answers_by : (start now : Counts) (a : Answers) → AreAnswers b given (chosen (Packages bits) (queries o repo)) start now a → AreAnswers b given (queries_on bits.now o repo) start now a
  answers_by start now a are = subst (λ (qs : List Query). AreAnswers b given qs start now a) (law bits o repo).queries_are are

  pub refused_by : (fault : JudgeFault) → RefusesFirst b given (chosen (Packages bits) (queries o repo)) fault → RefusesFirst b given (queries_on bits.now o repo) fault
  refused_by fault h = subst (λ (qs : List Query). RefusesFirst b given qs fault) (law bits o repo).queries_are h

pub counted_by : AllPackages → (bits : Bor (List Bool)) (o : Options) (repo : Repo) (start now : Counts)
    → CountsAtMost (length (chosen (Packages bits) (queries o repo))) start now → CountsAtMost (length (queries_on bits.now o repo)) start now
counted_by law bits o repo start now few = subst (λ (qs : List Query). CountsAtMost (length qs) start now) (law bits o repo).queries_are few

-- ---- over the combined repository
module _ (w : Walk) (o : Options) (over : Overlay) (same : w ≡ record { repo = over.repo; options = o }) (given : List KnownRecord) where
  pub own_judged : (start now : Counts) (a : Answers) → a.plain ++ a.reports ≡ filter (selected w.options) (reports_on over.own w.repo) → AreAnswers w.options.budget given (queries_on over.own w.options w.repo) start now a
      → (j : Judged) → j.reports ≡ ordered (filter (selected o) over.notes ++ (a.plain ++ a.reports)) → j.certs ≡ a.certs → j.queries ≡ a.queries → IsOwnJudged o given over start now j
  own_judged start now a told are j reports certs count = record {
    reports_are = reports ∙ ap ordered (ap (λ rs. filter (selected o) over.notes ++ rs) told_here ∙ sym (filter-append (selected o) over.notes (reports_on over.own over.repo)));
    certs = here.certs;
    are = here.are;
    records_are = certs ∙ here.records_are;
    queries_are = count ∙ here.queries_are;
    within = here.within;
    formed = here.formed;
    lowered = here.lowered;
    few = here.few;
    counts_are = here.counts_are;
  }
    where
      told_here : a.plain ++ a.reports ≡ filter (selected o) (reports_on over.own over.repo)
      told_here = told ∙ ap (λ (v : Walk). filter (selected v.options) (reports_on over.own v.repo)) same

      here : AreAnswers o.budget given (overlay_queries o over) start now a
      here = subst (λ (v : Walk). AreAnswers v.options.budget given (queries_on over.own v.options v.repo) start now a) same are

  pub own_refused : (fault : JudgeFault) → RefusesFirst w.options.budget given (queries_on over.own w.options w.repo) fault → RefusesFirst o.budget given (overlay_queries o over) fault
  own_refused fault h = subst (λ (v : Walk). RefusesFirst v.options.budget given (queries_on over.own v.options v.repo) fault) same h

pub own_counted : (w : Walk) (o : Options) (over : Overlay) → w ≡ record { repo = over.repo; options = o } → (start now : Counts)
    → CountsAtMost (length (queries_on over.own w.options w.repo)) start now → CountsAtMost (length (overlay_queries o over)) start now
own_counted w o over same start now few = subst (λ (v : Walk). CountsAtMost (length (queries_on over.own v.options v.repo)) start now) same few
