-- All queries judged.
use Rattle.std.proofs.Common.{◌≡◌, ℕ, ◌+◌, ◌≤◌, arith, List, [], ◌++◌, length, filter, map, refl, sym, ap, subst, ◌∙◌, append-nil}
use Rattle.std.specs.Prelude.{filter_map, flat_map}
use Rattle.gv_base.specs.Counts.{Counts}
use Rattle.gv_cert.specs.Known.{KnownRecord}
use Rattle.gv_report.specs.Distinct.{ordered}
use Rattle.gv_report.specs.Selecting.{selected}
use Rattle.gv_report.specs.declared.options.Options.{Options}
use Rattle.gv_report.specs.declared.report.Report.{Report}
use Rattle.gv_checks.specs.Answered.{IsJudged}
use Rattle.gv_checks.specs.Answers.{AreAnswers}
use Rattle.gv_plain.specs.Cases.{members}
use Rattle.gv_checks.specs.Certs.{AreCerts, CountsAtMost, counts_after, new_count}
use Rattle.gv_checks.specs.Chosen.{chosen, told_chosen}
use Rattle.gv_checks.specs.Limits.{Refuses, RefusesFirst}
use Rattle.gv_checks.specs.Progress.{IsAt, IsSomewhere, Outset, Stops}
use Rattle.gv_checks.specs.Queries.{Query, gates_of, queries}
use Rattle.gv_checks.specs.Recalled.{IsRecalled, NotRecalls}
use Rattle.gv_checks.specs.Views.{Walk}
use Rattle.gv_plain.specs.Plain.{told_member}
use Rattle.gv_plain.specs.Telling.{ToldLaw}
use Rattle.gv_plain.specs.PlainReports.{plain_reports}
use Rattle.gv_checks.specs.RepoReports.{query_report, reports, scan_reports}
use Rattle.gv_checks.specs.declared.chosen.Chosen.TheVariants.{All}
use Rattle.gv_checks.specs.declared.fault.JudgeFault.{JudgeFault}
use Rattle.gv_checks.specs.declared.fault.JudgeFault.TheVariants as judging
use Rattle.gv_checks.specs.declared.fault.JudgeFault.TheVariants.{Limit, Spent}
use Rattle.gv_checks.specs.declared.names.QueryName.{QueryName}
use Rattle.gv_checks.specs.declared.recalled.RecallFault.TheVariants as recalling
use Rattle.gv_checks.specs.declared.recalled.RecallFault.TheVariants.{NotBacked}
use Rattle.gv_checks.specs.declared.recalled.Recalled.{Recalled}
use Rattle.gv_checks.specs.declared.whole.Judged.{Judged}
use Rattle.gv_checks.specs.declared.judging.Progress.{Progress}
use Rattle.gv_checks.specs.declared.walking.Answers.{Answers}
use Rattle.gv_load.specs.declared.loading.Repo.{Repo}
use Rattle.gv_checks.proofs.ChosenLemmas.{all_chosen, all_told_of}
use Rattle.gv_checks.proofs.CountLemmas.{at_most, new_few}
use Rattle.gv_checks.proofs.SelectedLemmas.{all_selected}

none_counted : (c : Counts) → c ≡ counts_after c 0 []
none_counted c = let s : c.solve + 0 ≡ c.solve = omega arith in let l : c.lower + 0 ≡ c.lower = omega arith in rw (s, l) refl

-- no query yet
abbrev pub outset : Counts → List Report → Outset
outset counts reports = record { counts = counts; reports = reports }

pub begins : (b : ℕ) (given : List KnownRecord) (start : Counts) (first : List Report) (p : Progress) → p.used.certs ≡ [] → p.used.found.items ≡ [] → p.reports ≡ first → p.queries ≡ 0 → IsAt b given (outset start first) [] p start
begins b given start first p certs found reports queries = record {
  lowered = 0;
  few = omega arith;
  used = record { certs = []; are = record { gates_are = refl; backed = tt }; formed = tt; reused = λ none. tt; records_are = certs; found_are = found; counts_are = none_counted start };
  reports_are = reports ∙ sym (append-nil first);
  queries_are = queries;
  within = tt;
  formed = tt;
  backed = λ none. tt;
}

pub some_begin : (b : ℕ) (given : List KnownRecord) (start : Counts) (first : List Report) (p : Progress) → IsAt b given (outset start first) [] p start → IsSomewhere b given p start
some_begin b given start first p at = record { start = outset start first; done = []; at = at }

pub answers : (b : ℕ) (given : List KnownRecord) (qs : List Query) (start now : Counts) (p : Progress) (a : Answers) → IsAt b given (outset start []) qs p now
    → a.reports ≡ p.reports → a.certs ≡ p.used.certs → a.queries ≡ p.queries → AreAnswers b given qs start now a
answers b given qs start now p a at reports certs queries = record {
  reports_are = reports ∙ at.reports_are;
  certs = at.used.certs;
  are = at.used.are;
  records_are = certs ∙ at.used.records_are;
  queries_are = queries ∙ at.queries_are;
  within = at.within;
  formed = at.formed;
  backed = at.backed;
  reused = at.used.reused;
  lowered = at.lowered;
  few = at.few;
  counts_are = at.used.counts_are;
}

-- what is reported, with whatever budget
module _ (told_law : (o : Options) (repo : Repo) → ToldLaw o repo) (o : Options) (b : ℕ) (given : List KnownRecord) (repo : Repo) (start now : Counts) (a : Answers) (plain : List Report) (is_plain : plain ≡ told_chosen All o repo) (are : AreAnswers b given (chosen All (queries o repo)) start now a) where
  whole : AreAnswers b given (queries o repo) start now a
  whole = subst (λ qs. AreAnswers b given qs start now a) (all_chosen 0 (queries o repo)) are

  told_is : filter (selected o) repo.notes ++ plain ≡ filter (selected o) (plain_reports repo)
  told_is = ap (λ rs. filter (selected o) repo.notes ++ rs) (is_plain ∙ all_told_of o repo) ∙ sym (told_law o repo).all

  reports_all : (reports : List Report) → reports ≡ ordered ((filter (selected o) repo.notes ++ plain) ++ a.reports) → reports ≡ scan_reports o repo
  reports_all reports e = e ∙ ap ordered (ap (λ rs. rs ++ a.reports) told_is ∙ (ap (λ rs. filter (selected o) (plain_reports repo) ++ rs) whole.reports_are ∙ all_selected o repo))

  pub ends : b ≡ o.budget → (j : Judged) → j.reports ≡ ordered ((filter (selected o) repo.notes ++ plain) ++ a.reports) → j.certs ≡ a.certs → j.queries ≡ a.queries → IsJudged o given repo start now j
  ends budget j reports certs queries_are = record {
    reports_are = reports_all j.reports reports;
    certs = whole.certs;
    are = subst (λ k. AreCerts k given (map gates_of (queries o repo)) whole.certs) budget whole.are;
    records_are = certs ∙ whole.records_are;
    queries_are = queries_are ∙ whole.queries_are;
    within = whole.within;
    formed = whole.formed;
    lowered = whole.lowered;
    few = whole.few;
    counts_are = whole.counts_are;
  }

  -- by records alone
  pub recalled : b ≡ 0 → (r : Recalled) → r.reports ≡ ordered ((filter (selected o) repo.notes ++ plain) ++ a.reports) → r.certs ≡ a.certs → r.queries ≡ a.queries → IsRecalled o given repo r
  recalled none r reports certs queries_are = record {
    reports_are = reports_all r.reports reports;
    certs = whole.certs;
    are = subst (λ k. AreCerts k given (map gates_of (queries o repo)) whole.certs) none whole.are;
    reused = whole.reused none;
    records_are = certs ∙ whole.records_are;
    queries_are = queries_are ∙ whole.queries_are;
    within = whole.within;
    formed = whole.formed;
    backed = whole.backed none;
  }

-- a scan's reports in three parts: notes, what is told of packages, and what is told of queries
pub in_parts : (told_law : (o : Options) (repo : Repo) → ToldLaw o repo) (o : Options) (repo : Repo) → filter (selected o) (reports repo) ≡ (filter (selected o) repo.notes ++ flat_map (told_member o repo) (members repo)) ++ filter_map query_report (queries o repo)
in_parts told_law o repo = sym (all_selected o repo) ∙ ap (λ rs. rs ++ filter_map query_report (queries o repo)) (told_law o repo).all

-- at most one is lowered, and one solved, for each query
module _ (b : ℕ) (given : List KnownRecord) (qs : List Query) (start now : Counts) (a : Answers) (are : AreAnswers b given qs start now a) where
  pub lowered_few : now.lower ≤ start.lower + length qs
  lowered_few = at_most start.lower are.lowered (length qs) now.lower are.few (ap (λ (c : Counts). c.lower) are.counts_are)

  pub solved_few : now.solve ≤ start.solve + length qs
  solved_few = at_most start.solve (new_count are.certs) (length qs) now.solve (new_few b given qs are.certs are.are) (ap (λ (c : Counts). c.solve) are.counts_are)

-- the first that is refused
pub refused : (b : ℕ) (given : List KnownRecord) (queries : List Query) (count : ℕ) (fault : JudgeFault) → Stops b given queries count fault → Refuses b given queries fault
refused b given queries count (Spent name sets) s = record { before = s.before; query = s.query; behind = s.behind; queries_are = s.queries_are; within = s.within; cause = s.cause }
refused b given queries count (Limit place number) s = record { before = s.before; query = s.query; behind = s.behind; queries_are = s.queries_are; within = s.within; cause = s.cause }
refused b given queries count judging.NoMemory s = tt

pub first_refused : (b : ℕ) (given : List KnownRecord) (queries : List Query) (count : ℕ) (fault : JudgeFault) → Stops b given queries count fault → RefusesFirst b given queries fault
first_refused b given queries count (Spent name sets) s =
    record { before = s.before; query = s.query; behind = s.behind; queries_are = s.queries_are; within = s.within; certs = s.certs; are = s.are; cause = s.cause }
first_refused b given queries count (Limit place number) s =
    record { before = s.before; query = s.query; behind = s.behind; queries_are = s.queries_are; within = s.within; certs = s.certs; are = s.are; cause = s.cause }
first_refused b given queries count judging.NoMemory s = tt

-- By records alone.
pub not_backed : (given : List KnownRecord) (queries : List Query) (count : ℕ) (name : QueryName) (sets : List (List ℕ)) (number : ℕ) → Stops 0 given queries count (Spent name sets) → number ≡ count + 1
    → NotRecalls given queries (NotBacked number)
not_backed given queries count name sets number s e = record {
  before = s.before;
  query = s.query;
  behind = s.behind;
  queries_are = s.queries_are;
  within = s.within;
  backed = s.backed refl;
  cause = (e ∙ ap (λ n. n + 1) s.count_is, s.cause.1, s.cause.2.none);
}

pub past_limit : (given : List KnownRecord) (queries : List Query) (count : ℕ) (place : List ℕ) (number : ℕ) → Stops 0 given queries count (Limit place number) → NotRecalls given queries (recalling.Limit place number)
past_limit given queries count place number s = record {
  before = s.before;
  query = s.query;
  behind = s.behind;
  queries_are = s.queries_are;
  within = s.within;
  backed = s.backed refl;
  cause = s.cause;
}

-- over a walk of the repository
module _ (told_law : (o : Options) (repo : Repo) → ToldLaw o repo) (w : Walk) (o : Options) (repo : Repo) (same : w ≡ record { repo = repo; options = o }) (b : ℕ) (given : List KnownRecord) (start now : Counts) (a : Answers) (plain : List Report)
    (told : plain ≡ told_chosen All w.options w.repo) (are : AreAnswers b given (chosen All (queries w.options w.repo)) start now a) where
  told_here : plain ≡ told_chosen All o repo
  told_here = told ∙ ap (λ (v : Walk). told_chosen All v.options v.repo) same

  are_here : AreAnswers b given (chosen All (queries o repo)) start now a
  are_here = subst (λ (v : Walk). AreAnswers b given (chosen All (queries v.options v.repo)) start now a) same are

  pub ends_over : b ≡ o.budget → (j : Judged) → j.reports ≡ ordered ((filter (selected o) repo.notes ++ plain) ++ a.reports) → j.certs ≡ a.certs → j.queries ≡ a.queries → IsJudged o given repo start now j
  ends_over = ends told_law o b given repo start now a plain told_here are_here

  pub recalled_over : b ≡ 0 → (r : Recalled) → r.reports ≡ ordered ((filter (selected o) repo.notes ++ plain) ++ a.reports) → r.certs ≡ a.certs → r.queries ≡ a.queries → IsRecalled o given repo r
  recalled_over = recalled told_law o b given repo start now a plain told_here are_here

pub counted_over : (w : Walk) (o : Options) (repo : Repo) → w ≡ record { repo = repo; options = o } → (start now : Counts)
    → CountsAtMost (length (chosen All (queries w.options w.repo))) start now → CountsAtMost (length (queries o repo)) start now
counted_over w o repo same start now few =
    subst (λ qs. CountsAtMost (length qs) start now) (all_chosen 0 (queries o repo)) (subst (λ (v : Walk). CountsAtMost (length (chosen All (queries v.options v.repo))) start now) same few)

pub stops_over : (w : Walk) (o : Options) (repo : Repo) → w ≡ record { repo = repo; options = o } → (b : ℕ) (given : List KnownRecord) (count : ℕ) (fault : JudgeFault)
    → Stops b given (chosen All (queries w.options w.repo)) count fault → Stops b given (queries o repo) count fault
stops_over w o repo same b given count fault s =
    subst (λ qs. Stops b given qs count fault) (all_chosen 0 (queries o repo)) (subst (λ (v : Walk). Stops b given (chosen All (queries v.options v.repo)) count fault) same s)
