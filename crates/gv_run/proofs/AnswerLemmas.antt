-- From what judging answers to the answers of a scan.
use Rattle.std.proofs.Common.{◌≡◌, ℕ, ◌+◌, ◌≤◌, Bool, true, false, not, if◌then◌else◌, List, [], ◌∷◌, ◌++◌, length, map, filter, Some, None, refl, sym, ap, subst, ◌∙◌, inl, inr, arith}
use Rattle.std.specs.Prelude.{Option}
use Rattle.std.specs.List.{AllByRecursion}
use Rattle.std.proofs.lemmas.Bool.{false≢true}
use Rattle.std.proofs.lemmas.List.{length-map}
use Rattle.gv_base.specs.Causes.{Rose}
use Rattle.gv_base.specs.Counts.{Counts}
use Rattle.gv_cert.specs.Claim.{IsAnswerTo, answer_bytes}
use Rattle.gv_cert.specs.Backing.{Backs, IsFirstBacked}
use Rattle.gv_cert.specs.File.{ReadsFile, file_bytes}
use Rattle.gv_cert.specs.Known.{KnownRecord}
use Rattle.gv_cert.specs.declared.claim.Claim.{Claim}
use Rattle.gv_cert.specs.declared.claim.Claim.TheVariants.{Refuted, Found}
use Rattle.gv_entry.specs.Allowed.{Parent}
use Rattle.gv_expr.specs.Dep.{Dep}
use Rattle.gv_expr.specs.Required.{Req}
use Rattle.gv_base.specs.FileMap.{FileMap}
use Rattle.gv_load.specs.Loading.{LoadCause}
use Rattle.gv_reading.specs.declared.faults.LoadFault.{LoadFault}
use Rattle.gv_reading.specs.declared.faults.LoadFault.TheVariants as loads
use Rattle.gv_load.specs.OwnLines.{HaveOwnLines}
use Rattle.gv_load.specs.declared.loading.Repo.{Repo}
use Rattle.gv_logic.specs.Circuits.{Circuit, IsCircuit}
use Rattle.gv_logic.specs.Logs.{Step}
use Rattle.gv_query.specs.Asking.{Comes}
use Rattle.gv_query.specs.Truth.{IsSo}
use Rattle.gv_report.specs.declared.options.Options.{Options}
use Rattle.gv_words.specs.declared.command.Asked.{Asked}
use Rattle.gv_report.specs.declared.report.Report.{Report}
use Rattle.gv_report.specs.Emitted.{emitted, reports_text}
use Rattle.gv_report.specs.Distinct.{ordered}
use Rattle.gv_report.specs.Selecting.{selected}
use Rattle.gv_checks.specs.Answered.{AreJudged, IsJudged}
use Rattle.gv_checks.specs.Asked.{asked_gates, found_bits, least_asked}
use Rattle.gv_checks.specs.Certs.{AreCerts, Cert, HasBacked, HasRecord, IsCert, cert_record, counts_after, new_count}
use Rattle.gv_checks.specs.Limits.{IsWithin, RefusesFirst}
use Rattle.gv_checks.specs.declared.fault.JudgeFault.{JudgeFault}
use Rattle.gv_checks.specs.declared.fault.JudgeFault.TheVariants as judges
use Rattle.gv_checks.specs.declared.names.QueryName.{QueryName}
use Rattle.gv_checks.specs.Queries.{Query, class_of, gates_bytes, gates_of, least_of, queries, query_name, required_of}
use Rattle.gv_checks.specs.RepoReports.{report_found, reports, scan_reports, scan_text}
use Rattle.gv_checks.specs.declared.whole.Judged.{Judged}
use Rattle.gv_run.specs.declared.answering.Answers.{Answers}
use Rattle.gv_ending.specs.Causes.{Causes, Why, of_queries, of_reading}
use Rattle.gv_run.specs.Naming.{name_text, query_text}
use Rattle.gv_run.specs.Refusing.{HandsJudge, HandsLoad}
use Rattle.gv_run.specs.Scan.{IsLoaded, IsUnloaded}
use Rattle.gv_run.specs.Scanning.{AreAnswered, AreUnbacked, Scanning, certs_file, scan_of}
use Rattle.gv_run.specs.ScanSteps.{AreAnswersOf, HasAnswers, IsUnanswered, IsUnread, answer_causes, reading}
use Rattle.gv_run.proofs.Whys.{from_queries, why_on}
use Rattle.gv_ending.specs.declared.refusal.Refusal.{Refusal}
use Rattle.gv_run.specs.Silences.{IsRefutedIfSilent, IsSilent}
use Rattle.gv_run.proofs.NamedQuery.{EachNamed, text_of}

-- a fault of loading or of judging, handed on, is a cause
abbrev pub unread_causes : Option FileMap → (before now : ℕ) → Causes
unread_causes told before now = of_reading (Rose before now) (IsUnread told before now)

pub unread : (told : Option FileMap) (before now : ℕ) (fault : LoadFault) (refusal : Refusal) → LoadCause told before now fault → HandsLoad fault refusal → Why (unread_causes told before now) refusal
unread told before now (loads.Tree path) refusal cause is = subst (Why (unread_causes told before now)) (sym is) cause.0
unread told before now (loads.NotARepository path) refusal cause is = subst (Why (unread_causes told before now)) (sym is) cause
unread told before now (loads.Limit place number) refusal cause is = subst (Why (unread_causes told before now)) (sym is) (inl cause)
unread told before now loads.NoMemory refusal cause is = subst (Why (unread_causes told before now)) (sym is) tt

-- of queries each of which has a name of its own
module _ (budget : ℕ) (given : List KnownRecord) (repo : Repo) (qs : List Query) (named : (before behind : List Query) (q : Query) → qs ≡ before ++ q ∷ behind → name_text repo (query_name q) ≡ query_text q) where
  abbrev unjudged_causes : Causes
  unjudged_causes = of_queries (IsUnanswered budget given repo qs)

  spent_or_none : (name : QueryName) (sets : List (List ℕ)) (refusal : Refusal) → RefusesFirst budget given qs (judges.Spent name sets) → HandsJudge repo (judges.Spent name sets) refusal → Why unjudged_causes refusal
  spent_or_none name sets refusal first (inl is) =
      subst (Why unjudged_causes) (sym is) (name, sets, refl, first, ap (name_text repo) first.cause.0 ∙ named first.before first.behind first.query first.queries_are)
  spent_or_none name sets refusal first (inr is) = subst (Why unjudged_causes) (sym is) tt

  pub unjudged_of : (fault : JudgeFault) (refusal : Refusal) → RefusesFirst budget given qs fault → HandsJudge repo fault refusal → Why unjudged_causes refusal
  unjudged_of (judges.Spent name sets) refusal first is = spent_or_none name sets refusal first is
  unjudged_of (judges.Limit place number) refusal first is = subst (Why unjudged_causes) (sym is) (inr (inl first))
  unjudged_of judges.NoMemory refusal first is = subst (Why unjudged_causes) (sym is) tt

pub unjudged : (options : Options) (given : List KnownRecord) (repo : Repo) → EachNamed → HaveOwnLines repo.profiles → (fault : JudgeFault) (refusal : Refusal) → RefusesFirst options.budget given (queries options repo) fault
    → HandsJudge repo fault refusal → Why (of_queries (IsUnanswered options.budget given repo (queries options repo))) refusal
unjudged options given repo each_named own =
    unjudged_of options.budget given repo (queries options repo) (λ before behind q are. text_of each_named options repo own before behind q are)

abbrev pub PickedLaw : Type 0
PickedLaw = (p : Report → Bool) (rs : List Report) → filter p (ordered rs) ≡ ordered (filter p rs)

-- what is picked out is picked out again
twice : {A : Type 0} (p : A → Bool) (xs : List A) → filter p (filter p xs) ≡ filter p xs
twice p [] = refl
twice p (x ∷ xs) = by (p x) refl (twice p xs)
  where
    by : (b : Bool) → p x ≡ b → filter p (filter p xs) ≡ filter p xs → filter p (if b then x ∷ filter p xs else filter p xs) ≡ (if b then x ∷ filter p xs else filter p xs)
    by true e rest = rw e (ap (λ ys. x ∷ ys) rest)
    by false e rest = rest

-- reports that were selected are all selected
pub picked_text : PickedLaw → (options : Options) (rs : List Report) → emitted options (ordered (filter (selected options) rs)) ≡ reports_text options.json (ordered (filter (selected options) rs))
picked_text law options rs = ap (reports_text options.json) (law (selected options) (filter (selected options) rs) ∙ ap ordered (twice (selected options) rs))

pub text_is : PickedLaw → (options : Options) (repo : Repo) → emitted options (scan_reports options repo) ≡ scan_text options repo
text_is law options repo = picked_text law options (reports repo)

-- ---- of the gates of new certificates no given record is backed

first_backed : (given : List KnownRecord) (g : Circuit) (claim : Claim) → IsFirstBacked g given claim → HasBacked given g
first_backed given g claim is = (is.number, record { has = is.has; backed = record { claim = claim; formed = is.formed; written = is.written; backs = is.backs } })

unbacked : (budget : ℕ) (given : List KnownRecord) (certs : List Cert) → AllByRecursion (IsCert budget given) certs → AreUnbacked given (map (λ (c : Cert). c.gates) certs) (new_count certs)
unbacked budget given [] all = refl
unbacked budget given (c ∷ cs) all = by c.reused all.0.answered.comes (unbacked budget given cs all.1)
  where
    rest : List Cert
    rest = filter (λ (c : Cert). not c.reused) cs

    by : (b : Bool) → Comes b c.gates budget given c.claim → AreUnbacked given (map (λ (c : Cert). c.gates) cs) (length rest)
        → AreUnbacked given (c.gates ∷ map (λ (c : Cert). c.gates) cs) (length (if not b then c ∷ rest else rest))
    by true comes are = inl (first_backed given c.gates c.claim comes, are)
    by false comes are = inr (comes.0, length rest, omega arith, are)

-- ---- where no records are given, all certificates are new

fresh : (budget : ℕ) (c : Cert) → IsCert budget [] c → c.reused ≡ false
fresh budget c is = by c.reused refl
  where
    by : (b : Bool) → c.reused ≡ b → b ≡ false
    by false e = refl
    by true e =
        let first = subst (λ b. Comes b c.gates budget [] c.claim) e is.answered.comes in
        absurd (omega (arith, first.has.there))

all_new : (budget : ℕ) (certs : List Cert) → AllByRecursion (IsCert budget []) certs → filter (λ (c : Cert). not c.reused) certs ≡ certs
all_new budget [] all = refl
all_new budget (c ∷ cs) all =
    let rest : List Cert = filter (λ (c : Cert). not c.reused) cs in
    subst (λ b. (if not b then c ∷ rest else rest) ≡ c ∷ cs) (sym (fresh budget c all.0)) (ap (λ (more : List Cert). c ∷ more) (all_new budget cs all.1))

-- ---- of a silence it is a refutation

abbrev pub GatesLaw : Type 0
GatesLaw = (c : Parent) (required : List Req) (class : Option (List Dep)) (claim : Claim) → IsSo (asked_gates c required class) claim → least_asked c required class ≡ found_bits claim

abbrev is_told : Option Report → Bool
is_told None = false
is_told (Some r) = true

no_bits : (q : Query) → IsSilent q → least_of q ≡ None
no_bits q silent = by (least_of q) (subst (λ class. report_found q class (least_of q) ≡ None) silent.class_is silent.none)
  where
    by : (o : Option (List Bool)) → report_found q (Some silent.class) o ≡ None → o ≡ None
    by None none = refl
    by (Some bits) none = absurd (false≢true (sym (ap is_told none)))

abbrev is_bits : Option (List Bool) → Bool
is_bits None = false
is_bits (Some bits) = true

refuted : (claim : Claim) → found_bits claim ≡ None → (log : List Step) × (claim ≡ Refuted log)
refuted (Refuted log) none = (log, refl)
refuted (Found bits log) none = absurd (false≢true (sym (ap is_bits none)))

abbrev made : List ℕ → List ℕ → Option KnownRecord
made query answer = Some (record { query = query; answer = answer })

silence : GatesLaw → (records : List KnownRecord) (q : Query) → HasRecord records (gates_of q) → IsRefutedIfSilent records q
silence gates_law records q has silent =
    let none : found_bits has.claim ≡ None = sym (gates_law q.case.parent (required_of q) (class_of q) has.claim has.so) ∙ no_bits q silent in
    let r = refuted has.claim none in
    record {
      log = r.0;
      number = has.number;
      there = has.there ∙ ap (λ c. made (gates_bytes q) (answer_bytes (gates_of q) c)) r.1;
      formed = subst (IsAnswerTo (gates_of q)) r.1 has.formed;
      backed = subst (Backs (gates_of q)) r.1 has.backed;
    }

each : GatesLaw → (records : List KnownRecord) (qs : List Query) → AllByRecursion (λ q. HasRecord records (gates_of q)) qs → AllByRecursion (IsRefutedIfSilent records) qs
each gates_law records [] have = tt
each gates_law records (q ∷ qs) have = (silence gates_law records q have.0, each gates_law records qs have.1)

-- the certificates of queries: what is so of them where each has its record
pub are_answered : GatesLaw → (budget : ℕ) (given : List KnownRecord) (qs : List Query) (before now : Counts) (certs : List Cert) → AllByRecursion IsWithin qs → AllByRecursion (λ q. IsCircuit (gates_of q)) qs
    → AreCerts budget given (map gates_of qs) certs → AllByRecursion (λ q. HasRecord (map cert_record certs) (gates_of q)) qs → now.solve ≡ before.solve + new_count certs → now.lower ≤ before.lower + length qs
    → ((other : List KnownRecord) → ReadsFile (certs_file certs) other → other ≡ map cert_record certs) → AreAnswered budget given qs before now certs
are_answered gates_law budget given qs before now certs within formed are have solved lowered back = record {
  within = within;
  formed = formed;
  certs_are = are;
  read_back = back;
  silences = each gates_law (map cert_record certs) qs have;
  steps = record {
    count = new_count certs;
    unbacked = subst (λ (gs : List Circuit). AreUnbacked given gs (new_count certs)) are.gates_are (unbacked budget given certs are.backed);
    all = λ none.
        ap length (all_new budget certs (subst (λ (known : List KnownRecord). AllByRecursion (IsCert budget known) certs) none are.backed))
        ∙ (sym (length-map certs (λ (c : Cert). c.gates)) ∙ ap length are.gates_are);
    solved = solved;
    lowered = lowered;
  };
}

-- so many are lowered
pub lowered_few : (before now : Counts) (lowered most : ℕ) (certs : List Cert) → lowered ≤ most → now ≡ counts_after before lowered certs → now.lower ≤ before.lower + most
lowered_few before now lowered most certs few are = let at : now.lower ≡ before.lower + lowered = ap (λ (c : Counts). c.lower) are in omega (arith, at, few)

abbrev pub RecordsLaw : Type 0
RecordsLaw = (budget : ℕ) (given : List KnownRecord) (asked : List Query) (told : List Report) (before now : Counts) (j : Judged) → AreJudged budget given asked told before now j → AllByRecursion (λ q. HasRecord j.certs (gates_of q)) asked

-- ---- all of it

-- of queries that were judged
pub of_judged : RecordsLaw → GatesLaw → (budget : ℕ) (given : List KnownRecord) (qs : List Query) (rs : List Report) (text : List ℕ) (before now : Counts) (j : Judged) (answers : Answers) →
    AreJudged budget given qs rs before now j → answers.text ≡ text → answers.file ≡ file_bytes j.certs
    → ((other : List KnownRecord) → ReadsFile answers.file other → other ≡ j.certs) → AreAnswersOf budget given qs text before now answers
of_judged records_law gates_law budget given qs rs text before now j answers is text_is file back =
    record {
      certs = is.certs;
      are = are_answered gates_law budget given qs before now is.certs is.within is.formed is.are
          (subst (λ records. AllByRecursion (λ (q : Query). HasRecord records (gates_of q)) qs) is.records_are (records_law budget given qs rs before now j is))
          (ap (λ (c : Counts). c.solve) is.counts_are)
          (lowered_few before now is.lowered (length qs) is.certs is.few is.counts_are)
          (λ other reads. back other (subst (λ bytes. ReadsFile bytes other) (sym (file ∙ ap file_bytes is.records_are)) reads) ∙ is.records_are);
      text_is = text_is;
      file_is = file ∙ ap file_bytes is.records_are;
    }

-- ---- from reading and judging to an answer

-- the repository wasn't read
pub not_read_of : (s : Scanning) (given : List KnownRecord) (told : Option FileMap) → ((fault : LoadFault) → IsUnloaded told fault → s.Unloads fault) → (before now : ℕ) (c : Counts) (refusal : Refusal)
    → Why (unread_causes told before now) refusal → Why (answer_causes s given (reading before now c c)) refusal
not_read_of s given told unloads before now c =
    why_on (unread_causes told before now) (answer_causes s given (reading before now c c))
    (record {
      tree = λ rose. (rose, refl);
      store = λ path none. absurd none;
      input = λ refusal none. absurd none;
      output = λ none. absurd none;
      files = λ fault un. (un.0, (refl, unloads fault un.1));
      queries = λ refusal none. absurd none;
      memory = λ any. any;
    })

-- of a scan
pub are_answers : PickedLaw → RecordsLaw → GatesLaw → (options : Options) (given : List KnownRecord) (repo : Repo) (before now : Counts) (j : Judged) (answers : Answers) →
    IsJudged options given repo before now j → answers.text ≡ emitted options j.reports → answers.file ≡ file_bytes j.certs
    → ((other : List KnownRecord) → ReadsFile answers.file other → other ≡ j.certs) → AreAnswersOf options.budget given (queries options repo) (scan_text options repo) before now answers
are_answers picked records_law gates_law options given repo before now j answers is text file back =
    of_judged records_law gates_law options.budget given (queries options repo) (scan_reports options repo) (scan_text options repo) before now j answers is
    (text ∙ (ap (emitted options) is.reports_are ∙ text_is picked options repo)) file back

-- ---- from reading and judging to a scan's

module _ (a : Asked) (given : List KnownRecord) (told : Option FileMap) (before now : ℕ) where
  pub not_read : (c : Counts) (refusal : Refusal) → Why (unread_causes told before now) refusal → Why (answer_causes (scan_of a told) given (reading before now c c)) refusal
  not_read c = not_read_of (scan_of a told) given told (λ fault un. un) before now c

  module _ (calm : now ≡ before) (repo : Repo) (loaded : IsLoaded told repo) (c c' : Counts) where
    pub not_judged : (refusal : Refusal) → Why (of_queries (IsUnanswered a.options.budget given repo (queries a.options repo))) refusal
        → Why (answer_causes (scan_of a told) given (reading before now c c')) refusal
    not_judged =
        from_queries (IsUnanswered a.options.budget given repo (queries a.options repo)) (answer_causes (scan_of a told) given (reading before now c c'))
        (λ refusal un. (calm, (repo, loaded, un))) tt

    pub has_answers : (answers : Answers) → AreAnswersOf a.options.budget given (queries a.options repo) (scan_text a.options repo) c c' answers → HasAnswers (scan_of a told) given (reading before now c c') answers
    has_answers answers are = record { calm = calm; of = repo; loaded = loaded; are = are }
