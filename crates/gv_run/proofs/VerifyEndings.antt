-- What a verification leaves untouched, and what it says where nothing outside fails.
-- That what a scan left is accepted (`accepts_scans`) is `accepted_law` of `gv_verify`, since the file of the scan's
-- certificates is read back as just these records.
use Rattle.std.proofs.Common.{◌≡◌, ℕ, Bool, true, false, List, length, map, Some, None, refl, sym, ap, subst, ◌∙◌, inl, inr, arith}
use Rattle.std.specs.Prelude.{Option, IfSome, IfOk, IfErr, Result, Ok, Err, ◌⊎◌}
use Rattle.std.specs.List.{AllByRecursion}
use Rattle.std.proofs.lemmas.Bool.{false≢true}
use Rattle.gv_base.specs.Causes.{Rose}
use Rattle.gv_base.specs.Counts.{Counts}
use Rattle.gv_base.specs.FileMap.{FileMap}
use Rattle.gv_cert.specs.File.{ReadsFile}
use Rattle.gv_cert.specs.Known.{KnownRecord}
use Rattle.gv_reading.specs.declared.faults.LoadFault.{LoadFault}
use Rattle.gv_reading.specs.declared.faults.LoadFault.TheVariants as loads
use Rattle.gv_load.specs.declared.loading.Repo.{Repo}
use Rattle.gv_load.specs.Loading.{loading}
use Rattle.gv_reading.specs.Look.{look_of}
use Rattle.gv_report.specs.declared.keyword.Keyword.{Keyword}
use Rattle.gv_report.specs.declared.options.Options.{Options}
use Rattle.gv_words.specs.Command.{IsCommand, IsOneCommand}
use Rattle.gv_words.specs.declared.command.Command.TheVariants as commands
use Rattle.gv_words.specs.declared.command.Verification.{Verification}
use Rattle.gv_checks.specs.Answered.{IsJudged}
use Rattle.gv_checks.specs.Certs.{HasBacked, cert_record, counts_after}
use Rattle.gv_checks.specs.Limits.{IsWithin}
use Rattle.gv_checks.specs.Queries.{Query, gates_of, queries}
use Rattle.gv_checks.specs.Recalled.{IsNotRecalled}
use Rattle.gv_checks.specs.RepoReports.{scan_reports, scan_text}
use Rattle.gv_checks.specs.declared.recalled.RecallFault.TheVariants as recalling
use Rattle.gv_checks.specs.declared.whole.Judged.{Judged}
use Rattle.gv_verify.specs.Verifying as verified
use Rattle.gv_verify.specs.Verifying.{MayAccept}
use Rattle.gv_verify.specs.declared.verifying.VerifyFault.{VerifyFault}
use Rattle.gv_verify.specs.declared.verifying.VerifyFault.TheVariants as faults
use Rattle.gv_ending.specs.declared.refusal.Refusal.{Refusal}
use Rattle.gv_ending.specs.declared.refusal.Refusal.TheVariants.{TreeFailed, StoreFailed, OutputFailed, Spent, NoMemory, NotARepository, Limit, Lacks}
use Rattle.gv_run.specs.declared.verdict.Verdict.{Verdict}
use Rattle.gv_run.specs.declared.verdict.Verdict.TheVariants.{Accepted, NotBacked, OtherText}
use Rattle.gv_ending.specs.Causes.{Why}
use Rattle.gv_ending.specs.Endings.{Ending, SaysNothing, TellsRefusal, Told, well_status}
use Rattle.gv_ending.specs.Fetching.{AreRecordsAt, IsFileAt, file_at}
use Rattle.gv_run.specs.Performs.{Runs, Spares, Unbegun}
use Rattle.gv_run.specs.Scan.{IsLoaded, IsUnloaded, unloaded_status}
use Rattle.gv_run.specs.Verify.{IsLeftByScan, IsPastOneIn, IsVerdict, VerifySays, is_refused, verify_causes}
use Rattle.gv_ending.specs.World.{Fed, Roots, World}
use Rattle.gv_run.proofs.Endings.{meets, one_of, within_not_past}
use Rattle.gv_run.proofs.Performed.{Ends, ends, five_only, or_five, or_unbegun}

-- ---- what stands whatever the status

module _ (law : IsOneCommand) (words : List (List ℕ)) (entry : Roots) (old new : World) (v : Verification) (is : IsCommand words (commands.Verify v)) (input : Fed) (ending : Ending) (runs : Runs words entry old new input ending) where
  spared : Unbegun entry old new ⊎ Spares (commands.Verify v) old new → (new.kept ≡ old.kept) × (new.counts.solve ≡ old.counts.solve)
  spared (inl none) = (none.untouched.store.0, ap (λ (c : Counts). c.solve) none.steps)
  spared (inr both) = both

  pub only_read : new.kept ≡ old.kept
  only_read = (spared (ends law words entry old new input (commands.Verify v) is ending runs).spares).0

  pub unsolved : new.counts.solve ≡ old.counts.solve
  unsolved = (spared (ends law words entry old new input (commands.Verify v) is ending runs).spares).1

-- ---- a query past a limit, where those before have backed records

abbrev pub FileLaw : Type 0
FileLaw = (bytes : List ℕ) (known other : List KnownRecord) → ReadsFile bytes known → ReadsFile bytes other → other ≡ known

past_not_within : (X : Type 0) (options : Options) (given : List KnownRecord) (repo : Repo) (place : List ℕ) (number : ℕ) → IsNotRecalled given (queries options repo) (recalling.Limit place number)
    → AllByRecursion IsWithin (queries options repo) → X
past_not_within X options given repo place number past within =
    within_not_past X past.query number (one_of IsWithin past.before past.query past.behind (subst (AllByRecursion IsWithin) past.queries_are within)) past.cause.1

past_not_unbacked : (X : Type 0) (options : Options) (given : List KnownRecord) (repo : Repo) (place : List ℕ) (number query : ℕ) → IsNotRecalled given (queries options repo) (recalling.Limit place number)
    → IsNotRecalled given (queries options repo) (recalling.NotBacked query) → X
past_not_unbacked X options given repo place number query past none =
    by (meets (λ (q : Query). HasBacked given (gates_of q)) IsWithin past.before none.before past.query none.query past.behind none.behind (sym past.queries_are ∙ none.queries_are) past.backed none.within)
  where
    by : HasBacked given (gates_of none.query) ⊎ ((past.query ≡ none.query) ⊎ IsWithin past.query) → X
    by (inl has) = absurd (none.cause.2 has.0 has.1)
    by (inr (inl same)) = within_not_past X past.query number (subst IsWithin (sym same) none.cause.1) past.cause.1
    by (inr (inr within)) = within_not_past X past.query number within past.cause.1

past_no_verdict : (X : Type 0) (options : Options) (given : List KnownRecord) (repo : Repo) (report : List ℕ) (verdict : Verdict) → IsPastOneIn options given repo → IsVerdict options given repo report verdict → X
past_no_verdict X options given repo report (Accepted count) past is = past_not_within X options given repo past.place past.number past.is is.within
past_no_verdict X options given repo report (NotBacked query) past is = past_not_unbacked X options given repo past.place past.number query past.is is
past_no_verdict X options given repo report (OtherText offset) past is = past_not_within X options given repo past.place past.number past.is is.within

-- ---- what is said

abbrev pub IsSaid : Verification → (told kept : Option FileMap) → ℕ → Type 0
IsSaid v told kept status = (status ≡ 5) ⊎ IfSome told (λ files. VerifySays v kept (loading (look_of files)) status)

says_loaded : (v : Verification) (told kept : Option FileMap) (repo : Repo) (status : ℕ) → IsLoaded told repo → VerifySays v kept (Ok repo) status → IfSome told (λ files. VerifySays v kept (loading (look_of files)) status)
says_loaded v None kept repo status loaded says = tt
says_loaded v (Some m) kept repo status loaded says = subst (λ r. VerifySays v kept r status) (sym loaded) says

says_unloaded : (v : Verification) (told kept : Option FileMap) (fault : LoadFault) (status : ℕ) → IsUnloaded told fault → (status ≡ unloaded_status fault) ⊎ (status ≡ 5)
    → IfSome told (λ files. VerifySays v kept (loading (look_of files)) status)
says_unloaded v None kept fault status unloaded says = tt
says_unloaded v (Some m) kept fault status unloaded says = subst (λ r. VerifySays v kept r status) (sym unloaded) says

-- a query is past a limit
past_says : (v : Verification) (kept : Option FileMap) (repo : Repo) (given : List KnownRecord) (place : List ℕ) (number status : ℕ) → IsNotRecalled given (queries v.options repo) (recalling.Limit place number)
    → (status ≡ 7) ⊎ (status ≡ 5) → VerifySays v kept (Ok repo) status
past_says v None repo given place number status past says = ((λ within. past_not_within _ v.options given repo place number past within), tt)
past_says v (Some files) repo given place number status past says = ((λ within. past_not_within _ v.options given repo place number past within), (λ other reads one. says))

by_status : (some : Bool) (status : ℕ) → status ≡ well_status some → (status ≡ 0) ⊎ ((status ≡ 1) ⊎ (status ≡ 5))
by_status false status is = inl is
by_status true status is = inr (inl is)

-- there is a verdict
verdict_says : FileLaw → (v : Verification) (kept : Option FileMap) (repo : Repo) (given : List KnownRecord) (report : List ℕ) (verdict : Verdict) (some : Bool) (status : ℕ) → AreRecordsAt kept v.certs given
    → IsVerdict v.options given repo report verdict → status ≡ well_status some → VerifySays v kept (Ok repo) status
verdict_says law v None repo given report verdict some status reads is well = ((λ within. by_status some status well), tt)
verdict_says law v (Some files) repo given report verdict some status reads is well = (
  (λ within. by_status some status well),
  (λ other others past. past_no_verdict _ v.options given repo report verdict (subst (λ known. IsPastOneIn v.options known repo) (law (file_at files v.certs) given other reads others) past) is),
)

module _ (law : IsOneCommand) (words : List (List ℕ)) (entry : Roots) (old new : World) (v : Verification) (is : IsCommand words (commands.Verify v)) (status : ℕ) where
  module _ (tree : Rose old.tree_faults new.tree_faults → ⊥) (store : Rose old.store_faults new.store_faults → ⊥) (out : Rose old.out_faults new.out_faults → ⊥) (err : Told) where
    refused_says : (refusal : Refusal) → Why (verify_causes v old new) refusal → TellsRefusal err refusal status → IsSaid v old.files old.kept status
    refused_says (StoreFailed path) why tells = absurd (store why.1.1.0)
    refused_says (TreeFailed path) why tells = absurd (tree why.1.1.0)
    refused_says OutputFailed why tells = absurd (out why.1)
    refused_says (NotARepository path) why tells = inr (says_unloaded v old.files old.kept _ status why.1.1.1.1 (or_five err (NotARepository path) status tells))
    refused_says (Limit place number) (inl why) tells = inr (says_unloaded v old.files old.kept _ status why.1.1.1.1 (or_five err (Limit place number) status tells))
    refused_says (Limit place number) (inr (inl why)) tells =
        let past = why.1.1.1 in
        inr (says_loaded v old.files old.kept past.repo status past.loaded (past_says v old.kept past.repo past.given place number status past.refused (or_five err (Limit place number) status tells)))
    refused_says (Limit place number) (inr (inr why)) tells = absurd why
    refused_says NoMemory why tells = inl (five_only status (or_five err NoMemory status tells))
    refused_says (Spent text) why tells = absurd why.1.1.1
    refused_says (Lacks part parts query) why tells = absurd why.1.1.1
    refused_says other why tells = absurd why

    ends_say : FileLaw → (input : Fed) (ending : Ending) → Ends (commands.Verify v) entry old new input ending → IfOk ending (λ some. (status ≡ well_status some) × SaysNothing err)
        → IfErr ending (λ refusal. TellsRefusal err refusal status) → IsSaid v old.files old.kept status
    ends_say files input (Ok some) ends well refused =
        let w = ends.done in
        let h = w.has in
        inr (says_loaded v old.files old.kept h.repo status h.loaded (verdict_says files v old.kept h.repo h.given h.report w.verdict some status h.fetched.given_are h.is well.0))
    ends_say files input (Err refusal) ends well refused =
        or_unbegun entry old new err (verify_causes v old new) refusal status (IsSaid v old.files old.kept status) (λ five. inl five) (λ why. refused_says refusal why refused) refused ends.refusal

    pub complete_verify : FileLaw → (input : Fed) (ending : Ending) → Runs words entry old new input ending → IfOk ending (λ some. (status ≡ well_status some) × SaysNothing err)
        → IfErr ending (λ refusal. TellsRefusal err refusal status) → IsSaid v old.files old.kept status
    complete_verify files input ending runs well refused = ends_say files input ending (ends law words entry old new input (commands.Verify v) is ending runs) well refused

-- ---- what a scan left is accepted

abbrev pub AcceptedLaw : Type 0
AcceptedLaw = (o : Options) (r : Repo) (given : List KnownRecord) (before now : Counts) (j : Judged) → IsJudged o given r before now j
    → (answer : Result ℕ VerifyFault) → verified.Verifies o j.certs r (scan_text o r) answer → MayAccept (length (queries o r)) answer

-- the keywords, profiles and form of a scan, and the rest of other options
abbrev chosen : List Keyword → Option (List (List ℕ)) → Bool → Options → Options
chosen keywords profiles json o = record { keywords = keywords; profiles = profiles; json = json; budget = o.budget; in_range = o.in_range }

same_choice : (o p : Options) → o.keywords ≡ p.keywords → o.profiles ≡ p.profiles → o.json ≡ p.json → chosen o.keywords o.profiles o.json p ≡ p
same_choice o p keywords profiles json =
    ap (λ k. chosen k o.profiles o.json p) keywords ∙ (ap (λ x. chosen p.keywords x o.json p) profiles ∙ ap (λ b. chosen p.keywords p.profiles b p) json)

-- a verdict as the answer of a verification
abbrev answer_of : Verdict → Result ℕ VerifyFault
answer_of (Accepted count) = Ok count
answer_of (NotBacked query) = Err (faults.NotBacked query)
answer_of (OtherText offset) = Err (faults.NoSuchText offset)

is_answer : (o : Options) (given : List KnownRecord) (repo : Repo) (report : List ℕ) (verdict : Verdict) → IsVerdict o given repo report verdict → verified.Verifies o given repo report (answer_of verdict)
is_answer o given repo report (Accepted count) is = is
is_answer o given repo report (NotBacked query) is = is
is_answer o given repo report (OtherText offset) is = is

-- the budget plays no part
any_budget : (o p : Options) (given : List KnownRecord) (repo : Repo) (report : List ℕ) (answer : Result ℕ VerifyFault) → o.keywords ≡ p.keywords → o.profiles ≡ p.profiles → o.json ≡ p.json
    → verified.Verifies o given repo report answer → verified.Verifies p given repo report answer
any_budget o p given repo report (Ok count) k f j is =
    subst (λ x. verified.Verifies x given repo report (Ok count)) (same_choice o p k f j)
    (record { queries_are = is.queries_are; within = is.within; backed = is.backed; text_is = is.text_is })
any_budget o p given repo report (Err (faults.NotBacked query)) k f j is = subst (λ x. verified.Verifies x given repo report (Err (faults.NotBacked query))) (same_choice o p k f j) is
any_budget o p given repo report (Err (faults.NoSuchText offset)) k f j is =
    subst (λ x. verified.Verifies x given repo report (Err (faults.NoSuchText offset))) (same_choice o p k f j)
    (record { within = is.within; backed = is.backed; differs = is.differs })
any_budget o p given repo report (Err (faults.Limit place number)) k f j is = subst (λ x. verified.Verifies x given repo report (Err (faults.Limit place number))) (same_choice o p k f j) is
any_budget o p given repo report (Err faults.NoMemory) k f j is = tt

abbrev repo_or : Repo → Result Repo LoadFault → Repo
repo_or d (Ok x) = x
repo_or d (Err e) = d

abbrev is_loaded : Result Repo LoadFault → Bool
is_loaded (Ok x) = true
is_loaded (Err e) = false

pub one_repo : (told : Option FileMap) (files : FileMap) (r s : Repo) → told ≡ Some files → IsLoaded told r → loading (look_of files) ≡ Ok s → r ≡ s
one_repo told files r s is loaded other =
    let this : loading (look_of files) ≡ Ok r = subst (λ t. IsLoaded t r) is loaded in
    ap (repo_or r) (sym this ∙ other)

pub not_unloaded : (X : Type 0) (told : Option FileMap) (files : FileMap) (fault : LoadFault) (s : Repo) → told ≡ Some files → IsUnloaded told fault → loading (look_of files) ≡ Ok s → X
not_unloaded X told files fault s is unloaded other =
    let this : loading (look_of files) ≡ Err fault = subst (λ t. IsUnloaded t fault) is unloaded in
    absurd (false≢true (ap is_loaded (sym this ∙ other)))

module _ (accepted : AcceptedLaw) (v : Verification) (told kept : Option FileMap) (left : IsLeftByScan v told kept) where
  abbrev scan_options : Options
  scan_options = left.asked.options

  loaded : loading (look_of left.files) ≡ Ok left.scan.answered.of
  loaded = subst (λ t. IsLoaded t left.scan.answered.of) left.scanned left.scan.answered.loaded

  -- what was judged
  abbrev judged : Judged
  judged = record { reports = scan_reports scan_options left.scan.answered.of; certs = map cert_record left.scan.answered.certs; queries = length (queries scan_options left.scan.answered.of) }

  none : Counts
  none = record { solve = 0; lower = 0 }

  is_judged : IsJudged scan_options left.scan.answered.given left.scan.answered.of none (counts_after none 0 left.scan.answered.certs) judged
  is_judged = record {
    reports_are = refl;
    certs = left.scan.answered.certs;
    are = left.scan.answered.are.certs_are;
    records_are = refl;
    queries_are = refl;
    within = left.scan.answered.are.within;
    formed = left.scan.answered.are.formed;
    lowered = 0;
    few = omega arith;
    counts_are = refl;
  }

  given_are : (given : List KnownRecord) → AreRecordsAt kept v.certs given → given ≡ map cert_record left.scan.answered.certs
  given_are given reads = left.scan.answered.are.read_back given
      (subst (λ bytes. ReadsFile bytes given) left.certs (subst (λ k. AreRecordsAt k v.certs given) left.held_are reads))

  report_is : (report : List ℕ) → IsFileAt kept v.report report → report ≡ scan_text scan_options left.scan.answered.of
  report_is report is = subst (λ k. IsFileAt k v.report report) left.held_are is ∙ left.report

  may_accept : (repo : Repo) (given : List KnownRecord) (report : List ℕ) (answer : Result ℕ VerifyFault) → IsLoaded told repo → AreRecordsAt kept v.certs given → IsFileAt kept v.report report
      → verified.Verifies v.options given repo report answer → MayAccept (length (queries scan_options left.scan.answered.of)) answer
  may_accept repo given report answer load reads file is =
      accepted scan_options left.scan.answered.of left.scan.answered.given none (counts_after none 0 left.scan.answered.certs) judged is_judged answer
      (any_budget v.options scan_options (map cert_record left.scan.answered.certs) left.scan.answered.of (scan_text scan_options left.scan.answered.of) answer left.keywords left.profiles left.json
      (subst (λ k. verified.Verifies v.options k left.scan.answered.of (scan_text scan_options left.scan.answered.of) answer) (given_are given reads)
      (subst (λ r. verified.Verifies v.options given r (scan_text scan_options left.scan.answered.of) answer) (one_repo told left.files repo left.scan.answered.of left.told_are load loaded)
      (subst (λ t. verified.Verifies v.options given repo t answer) (report_is report file) is))))

accepted_status : (count : ℕ) (verdict : Verdict) → MayAccept count (answer_of verdict) → is_refused verdict ≡ false
accepted_status count (Accepted n) may = refl
accepted_status count (NotBacked query) may = absurd may
accepted_status count (OtherText offset) may = absurd may

module _ (law : IsOneCommand) (accepted : AcceptedLaw) (words : List (List ℕ)) (entry : Roots) (old new : World) (v : Verification) (is : IsCommand words (commands.Verify v)) (status : ℕ)
    (left : IsLeftByScan v old.files old.kept) (tree : Rose old.tree_faults new.tree_faults → ⊥) (store : Rose old.store_faults new.store_faults → ⊥) (out : Rose old.out_faults new.out_faults → ⊥) (err : Told) where
  not_refused : (X : Type 0) (fault : LoadFault) → IsUnloaded old.files fault → X
  not_refused X fault unloaded = not_unloaded X old.files left.files fault left.scan.answered.of left.told_are unloaded (loaded accepted v old.files old.kept left)

  refused_left : (refusal : Refusal) → Why (verify_causes v old new) refusal → TellsRefusal err refusal status → (status ≡ 0) ⊎ (status ≡ 5)
  refused_left (StoreFailed path) why tells = absurd (store why.1.1.0)
  refused_left (TreeFailed path) why tells = absurd (tree why.1.1.0)
  refused_left OutputFailed why tells = absurd (out why.1)
  refused_left (NotARepository path) why tells = not_refused _ _ why.1.1.1.1
  refused_left (Limit place number) (inl why) tells = not_refused _ _ why.1.1.1.1
  refused_left (Limit place number) (inr (inl why)) tells =
      let past = why.1.1.1 in
      absurd (may_accept accepted v old.files old.kept left past.repo past.given past.report (Err (faults.Limit place number)) past.loaded past.fetched.given_are past.fetched.report_is past.refused)
  refused_left (Limit place number) (inr (inr why)) tells = absurd why
  refused_left NoMemory why tells = inr (five_only status (or_five err NoMemory status tells))
  refused_left (Spent text) why tells = absurd why.1.1.1
  refused_left (Lacks part parts query) why tells = absurd why.1.1.1
  refused_left other why tells = absurd why

  ends_left : (input : Fed) (ending : Ending) → Ends (commands.Verify v) entry old new input ending → IfOk ending (λ some. (status ≡ well_status some) × SaysNothing err)
      → IfErr ending (λ refusal. TellsRefusal err refusal status) → (status ≡ 0) ⊎ (status ≡ 5)
  ends_left input (Ok some) ends well refused =
      let w = ends.done in
      let h = w.has in
      let may = may_accept accepted v old.files old.kept left h.repo h.given h.report (answer_of w.verdict) h.loaded h.fetched.given_are h.fetched.report_is (is_answer v.options h.given h.repo h.report w.verdict h.is) in
      inl (well.0 ∙ (w.status_is ∙ ap well_status (accepted_status _ w.verdict may)))
  ends_left input (Err refusal) ends well refused =
      or_unbegun entry old new err (verify_causes v old new) refusal status ((status ≡ 0) ⊎ (status ≡ 5)) (λ five. inr five) (λ why. refused_left refusal why refused) refused ends.refusal

  pub accepts_scans : (input : Fed) (ending : Ending) → Runs words entry old new input ending → IfOk ending (λ some. (status ≡ well_status some) × SaysNothing err)
      → IfErr ending (λ refusal. TellsRefusal err refusal status) → (status ≡ 0) ⊎ (status ≡ 5)
  accepts_scans input ending runs well refused = ends_left input ending (ends law words entry old new input (commands.Verify v) is ending runs) well refused
