-- A scan of an overlay: from its load and its judging to what it leaves, as in a scan, and what it says where nothing outside fails.
use Rattle.std.proofs.Common.{◌≡◌, ℕ, ◌≤◌, Bool, false, List, Some, None, refl, sym, ap, subst, ◌∙◌, inl, inr, arith}
use Rattle.std.specs.Prelude.{Option, IfSome, Ok, Err, IfOk, IfErr, ◌⊎◌}
use Rattle.std.specs.List.{AllByRecursion}
use Rattle.gv_base.specs.Causes.{Rose}
use Rattle.gv_base.specs.Counts.{Counts}
use Rattle.gv_base.specs.FileMap.{FileMap}
use Rattle.gv_cert.specs.File.{ReadsFile, file_bytes}
use Rattle.gv_cert.specs.Known.{KnownRecord}
use Rattle.gv_reading.specs.declared.faults.LoadFault.{LoadFault}
use Rattle.gv_reading.specs.declared.faults.LoadFault.TheVariants as loads
use Rattle.gv_load.specs.declared.loading.Repo.{Repo}
use Rattle.gv_load.specs.OwnLines.{HaveOwnLines}
use Rattle.gv_report.specs.Emitted.{emitted}
use Rattle.gv_report.specs.declared.options.Options.{Options}
use Rattle.gv_checks.specs.Limits.{RefusesFirst}
use Rattle.gv_checks.specs.Named.{IsNamed}
use Rattle.gv_checks.specs.Queries.{query_name}
use Rattle.gv_checks.specs.SomePackages.{queries_on}
use Rattle.gv_checks.specs.declared.fault.JudgeFault.{JudgeFault}
use Rattle.gv_checks.specs.declared.whole.Judged.{Judged}
use Rattle.gv_overlay.specs.Judged.{IsOwnJudged, overlay_queries, overlay_reports, overlay_text, own_reports}
use Rattle.gv_overlay.specs.Overlays.{ExcludesRefusal, IsOverlay, OverlayCause, overlay_refusal, own_fault}
use Rattle.gv_overlay.specs.declared.faults.OverlayFault.{OverlayFault}
use Rattle.gv_overlay.specs.declared.faults.OverlayFault.TheVariants as overlays
use Rattle.gv_overlay.specs.declared.overlay.Overlay.{Overlay}
use Rattle.gv_words.specs.Command.{IsCommand, IsOneCommand}
use Rattle.gv_words.specs.declared.command.Command.TheVariants as commands
use Rattle.gv_words.specs.declared.command.OverlayScan.{OverlayScan}
use Rattle.gv_run.specs.declared.answering.Answers.{Answers}
use Rattle.gv_ending.specs.declared.refusal.Refusal.{Refusal}
use Rattle.gv_ending.specs.declared.refusal.Refusal.TheVariants.{TreeFailed, StoreFailed, OutputFailed, Spent, NoMemory, NotARepository, Limit, Lacks}
use Rattle.gv_ending.specs.Causes.{Causes, FailsAt, Why, of_queries, of_reading, of_store}
use Rattle.gv_ending.specs.Endings.{Ending, SaysNothing, TellsRefusal, Told, well_status}
use Rattle.gv_ending.specs.Fetching.{IsGiven}
use Rattle.gv_run.specs.Overlaying.{IsNotOverlaid, IsOverlaid, OverlaySays, OverlaySaysBy, overlay_causes, overlay_of, overlay_status}
use Rattle.gv_run.specs.Performs.{Performs, Runs}
use Rattle.gv_run.specs.Refusing.{HandsJudge, HandsOverlay}
use Rattle.gv_run.specs.Scan.{SaysOf}
use Rattle.gv_run.specs.ScanSteps.{AreAnswersOf, HasAnswers, HasLeft, IsUnanswered, IsUnreadBy, answer_causes, leave_causes, reading, writing}
use Rattle.gv_ending.specs.World.{Fed, Roots, World, world}
use Rattle.gv_run.proofs.AnswerLemmas.{GatesLaw, PickedLaw, RecordsLaw, of_judged, picked_text, unjudged_of}
use Rattle.gv_run.proofs.NamedQuery.{text_in}
use Rattle.gv_run.proofs.Endings.{says_done, says_limit, says_spent}
use Rattle.gv_run.proofs.Performed.{Ends, ends, five_only, or_five, or_unbegun}
use Rattle.gv_run.proofs.Scanned.{answers_stop, leave_stops, scans, untaken}
use Rattle.gv_run.proofs.Whys.{from_queries, why_on}

-- ---- loading and judging

abbrev unread_causes : Option FileMap → (name : List ℕ) → (before now : ℕ) → Causes
unread_causes told name before now = of_reading (Rose before now) (IsUnreadBy (IsNotOverlaid told name) before now)

pub unread : (told : Option FileMap) (name : List ℕ) (before now : ℕ) (fault : OverlayFault) (refusal : Refusal) → OverlayCause told name before now fault → HandsOverlay fault refusal
    → Why (unread_causes told name before now) refusal
unread told name before now (overlays.Tree path) refusal cause is = subst (Why (unread_causes told name before now)) (sym is) cause
unread told name before now (overlays.NotARepository path) refusal cause is = subst (Why (unread_causes told name before now)) (sym is) cause
unread told name before now (overlays.Limit place number) refusal cause is = subst (Why (unread_causes told name before now)) (sym is) (inl cause)
unread told name before now overlays.NoMemory refusal cause is = subst (Why (unread_causes told name before now)) (sym is) tt

-- the first query that is refused is named by its text
abbrev AllNamed : Type 0
AllNamed = (bits : List Bool) (options : Options) (repo : Repo) → AllByRecursion (λ q. IsNamed options repo (query_name q) q) (queries_on bits options repo)

pub unjudged : (options : Options) (given : List KnownRecord) (over : Overlay) → AllNamed → HaveOwnLines over.repo.profiles → (fault : JudgeFault) (refusal : Refusal) → RefusesFirst options.budget given (overlay_queries options over) fault
    → HandsJudge over.repo fault refusal → Why (of_queries (IsUnanswered options.budget given over.repo (overlay_queries options over))) refusal
unjudged options given over named own =
    unjudged_of options.budget given over.repo (overlay_queries options over)
    (λ before behind q are. text_in options over.repo own (overlay_queries options over) (named over.own options over.repo) before behind q are)

pub are_answers : PickedLaw → RecordsLaw → GatesLaw → (options : Options) (given : List KnownRecord) (over : Overlay) (before now : Counts) (j : Judged) (answers : Answers) →
    IsOwnJudged options given over before now j → answers.text ≡ emitted options j.reports → answers.file ≡ file_bytes j.certs
    → ((other : List KnownRecord) → ReadsFile answers.file other → other ≡ j.certs)
    → AreAnswersOf options.budget given (overlay_queries options over) (overlay_text options over) before now answers
are_answers picked records_law gates_law options given over before now j answers is text file back =
    of_judged records_law gates_law options.budget given (overlay_queries options over) (own_reports options over) (overlay_text options over) before now j answers is
    (text ∙ (ap (emitted options) is.reports_are ∙ picked_text picked options (overlay_reports over))) file back

module _ (s : OverlayScan) (given : List KnownRecord) (told : Option FileMap) (before now : ℕ) where
  pub not_read : (c : Counts) (refusal : Refusal) → Why (unread_causes told s.repo before now) refusal → Why (answer_causes (overlay_of s told) given (reading before now c c)) refusal
  not_read c =
      why_on (unread_causes told s.repo before now) (answer_causes (overlay_of s told) given (reading before now c c))
      (record {
        tree = λ rose. (rose, refl);
        store = λ path none. absurd none;
        input = λ refusal none. absurd none;
        output = λ none. absurd none;
        files = λ fault un. (un.0, (refl, un.1));
        queries = λ refusal none. absurd none;
        memory = λ any. any;
      })

  module _ (calm : now ≡ before) (over : Overlay) (loaded : IsOverlaid told s.repo over) (c c' : Counts) where
    pub not_judged : (refusal : Refusal) → Why (of_queries (IsUnanswered s.asked.options.budget given over.repo (overlay_queries s.asked.options over))) refusal
        → Why (answer_causes (overlay_of s told) given (reading before now c c')) refusal
    not_judged =
        from_queries (IsUnanswered s.asked.options.budget given over.repo (overlay_queries s.asked.options over)) (answer_causes (overlay_of s told) given (reading before now c c'))
        (λ refusal un. (calm, (over, loaded, un))) tt

    pub has_answers : (answers : Answers) → AreAnswersOf s.asked.options.budget given (overlay_queries s.asked.options over) (overlay_text s.asked.options over) c c' answers
        → HasAnswers (overlay_of s told) given (reading before now c c') answers
    has_answers answers are = record { calm = calm; of = over; loaded = loaded; are = are }

-- ---- what is left

module _ (input : Fed) (s : OverlayScan) (f : Option FileMap) (t : ℕ) (k : Option FileMap) (kb : ℕ) (o : Option (List ℕ)) (ob : ℕ) (c : Counts) where
  abbrev start : World
  start = world f t k kb o ob c

  -- the certificate file could not be taken
  pub unfetched : (k' : Option FileMap) (kn : ℕ) → k' ≡ k → s.asked.fresh ≡ false → kb ≤ kn → (refusal : Refusal) → Why (of_store (FailsAt s.asked.certs kb kn)) refusal
      → Performs (commands.Overlay s) start (world f t k' kn o ob c) input (Err refusal)
  unfetched k' kn kept unfresh later refusal why = record {
    done = tt;
    refusal = untaken (overlay_of s f) f t k k' kb kn o ob c kept unfresh (FailsAt s.asked.certs kb kn) (λ path fails. fails) refusal why;
    spares = tt;
    lasts = record { files = refl; tree = omega arith; store = later; out = omega arith };
  }

  module _ (given : List KnownRecord) (given_are : IsGiven s.asked.fresh k s.asked.certs given) (f' : Option FileMap) (files : f' ≡ f) (t' : ℕ) (later : t ≤ t') (c' : Counts) where
    pub unanswered : (k' : Option FileMap) (kn : ℕ) → k' ≡ k → kn ≡ kb → (refusal : Refusal) → Why (answer_causes (overlay_of s f) given (reading t t' c c')) refusal
        → Performs (commands.Overlay s) start (world f' t' k' kn o ob c') input (Err refusal)
    unanswered k' kn kept calm refusal why = record {
      done = tt;
      refusal = answers_stop (overlay_of s f) f f' t t' k kb o ob c c' given given_are k' kn kept calm refusal why;
      spares = tt;
      lasts = record { files = files; tree = later; store = omega (arith, calm); out = omega arith };
    }

    module _ (k' : Option FileMap) (kn : ℕ) (o' : Option (List ℕ)) (on : ℕ) (store : kb ≤ kn) (out : ob ≤ on) (answers : Answers) (has : HasAnswers (overlay_of s f) given (reading t t' c c') answers) where
      pub left : (ending : Ending) → IfOk ending (HasLeft s.asked.certs answers (writing k k' kb kn o o' ob on)) → IfErr ending (Why (leave_causes s.asked.certs answers (writing k k' kb kn o o' ob on)))
          → Performs (commands.Overlay s) start (world f' t' k' kn o' on c') input ending
      left (Ok some) done why = record {
        done = scans (overlay_of s f) f f' t t' k kb o ob c c' given given_are k' kn o' on answers has some done;
        refusal = tt;
        spares = tt;
        lasts = record { files = files; tree = later; store = store; out = out };
      }
      left (Err refusal) done why = record {
        done = tt;
        refusal = leave_stops (overlay_of s f) f f' t t' k kb o ob c c' given given_are k' kn o' on answers has refusal why;
        spares = tt;
        lasts = record { files = files; tree = later; store = store; out = out };
      }

      -- where the store was fetched from before
      pub left_from : (k1 : Option FileMap) (kb1 : ℕ) → k1 ≡ k → kb1 ≡ kb → (ending : Ending) → IfOk ending (HasLeft s.asked.certs answers (writing k1 k' kb1 kn o o' ob on))
          → IfErr ending (Why (leave_causes s.asked.certs answers (writing k1 k' kb1 kn o o' ob on))) → Performs (commands.Overlay s) start (world f' t' k' kn o' on c') input ending
      left_from k1 kb1 kept calm ending done why =
          left ending
          (subst (λ (x : Option FileMap). IfOk ending (HasLeft s.asked.certs answers (writing x k' kb kn o o' ob on))) kept
          (subst (λ (n : ℕ). IfOk ending (HasLeft s.asked.certs answers (writing k1 k' n kn o o' ob on))) calm done))
          (subst (λ (x : Option FileMap). IfErr ending (Why (leave_causes s.asked.certs answers (writing x k' kb kn o o' ob on)))) kept
          (subst (λ (n : ℕ). IfErr ending (Why (leave_causes s.asked.certs answers (writing k1 k' n kn o o' ob on)))) calm why))

-- ---- where nothing outside fails

abbrev pub IsSaid : OverlayScan → (told kept : Option FileMap) → ℕ → Type 0
IsSaid s told kept status = (status ≡ 5) ⊎ ((given : List KnownRecord) × IsGiven s.asked.fresh kept s.asked.certs given × IfSome told (λ files. OverlaySays s given files status))

says_loaded : ExcludesRefusal → (told : Option FileMap) (s : OverlayScan) (given : List KnownRecord) (over : Overlay) (status : ℕ) → IsOverlaid told s.repo over
    → SaysOf s.asked.options.budget given (overlay_queries s.asked.options over) (overlay_text s.asked.options over) status → IfSome told (λ files. OverlaySays s given files status)
says_loaded law None s given over status loaded says = tt
says_loaded law (Some m) s given over status loaded says = subst (λ (r : Option OverlayFault). OverlaySaysBy s given m r status) (sym (law m s.repo over loaded)) (over, loaded, says)

says_unloaded : (told : Option FileMap) (s : OverlayScan) (given : List KnownRecord) (fault : LoadFault) (status : ℕ) → IsNotOverlaid told s.repo fault → (status ≡ overlay_status (own_fault fault)) ⊎ (status ≡ 5)
    → IfSome told (λ files. OverlaySays s given files status)
says_unloaded None s given fault status unloaded says = tt
says_unloaded (Some m) s given fault status unloaded says = subst (λ (r : Option OverlayFault). OverlaySaysBy s given m r status) (sym unloaded) says

module _ (law : IsOneCommand) (one : ExcludesRefusal) (words : List (List ℕ)) (entry : Roots) (old new : World) (s : OverlayScan) (is : IsCommand words (commands.Overlay s)) (status : ℕ) where
  said : (given : List KnownRecord) → IsGiven s.asked.fresh old.kept s.asked.certs given → IfSome old.files (λ files. OverlaySays s given files status) → IsSaid s old.files old.kept status
  said given given_are says = inr (given, given_are, says)

  module _ (tree : Rose old.tree_faults new.tree_faults → ⊥) (store : Rose old.store_faults new.store_faults → ⊥) (out : Rose old.out_faults new.out_faults → ⊥) (err : Told) where
    refused_says : (refusal : Refusal) → Why (overlay_causes s old new) refusal → TellsRefusal err refusal status → IsSaid s old.files old.kept status
    refused_says (TreeFailed path) why tells = absurd (tree why.why.0)
    refused_says (StoreFailed path) why tells = absurd (store why.0)
    refused_says OutputFailed why tells = absurd (out why.0)
    refused_says (NotARepository path) why tells = said why.given why.given_are (says_unloaded old.files s why.given (loads.NotARepository path) status why.why.1.1 (or_five err (NotARepository path) status tells))
    refused_says (Limit place number) (inl why) tells = said why.given why.given_are (says_unloaded old.files s why.given (loads.Limit place number) status why.why.1.1 (or_five err (Limit place number) status tells))
    refused_says (Limit place number) (inr (inl why)) tells =
        let at = why.why.1 in
        said why.given why.given_are
        (says_loaded one old.files s why.given at.0 status at.1
        (says_limit s.asked.options.budget why.given (overlay_queries s.asked.options at.0) (overlay_text s.asked.options at.0) status place number at.2 (or_five err (Limit place number) status tells)))
    refused_says (Limit place number) (inr (inr why)) tells = absurd why
    refused_says (Spent text) why tells =
        let at = why.why.1 in
        let spent = at.2 in
        said why.given why.given_are
        (says_loaded one old.files s why.given at.0 status at.1
        (says_spent s.asked.options.budget why.given (overlay_queries s.asked.options at.0) (overlay_text s.asked.options at.0) status spent.0 spent.1 spent.3))
    refused_says (Lacks part parts query) why tells = absurd why.why.1.2
    refused_says NoMemory why tells = inl (five_only status (or_five err NoMemory status tells))
    refused_says other why tells = absurd why

    by_ends : (input : Fed) (ending : Ending) → Ends (commands.Overlay s) entry old new input ending → IfOk ending (λ some. (status ≡ well_status some) × SaysNothing err)
        → IfErr ending (λ refusal. TellsRefusal err refusal status) → IsSaid s old.files old.kept status
    by_ends input (Ok some) ends well refused =
        let r = ends.done in
        let w = r.answered in
        said w.given w.given_are
        (says_loaded one old.files s w.given w.of status w.loaded
        (says_done s.asked.options.budget w.given (overlay_queries s.asked.options w.of) (overlay_text s.asked.options w.of) status w.are.within (well.0 ∙ r.status_is)))
    by_ends input (Err refusal) ends well refused =
        or_unbegun entry old new err (overlay_causes s old new) refusal status (IsSaid s old.files old.kept status) (λ five. inl five) (λ why. refused_says refusal why refused) refused ends.refusal

    pub complete_overlay : (input : Fed) (ending : Ending) → Runs words entry old new input ending → IfOk ending (λ some. (status ≡ well_status some) × SaysNothing err)
        → IfErr ending (λ refusal. TellsRefusal err refusal status) → IsSaid s old.files old.kept status
    complete_overlay input ending runs well refused = by_ends input ending (ends law words entry old new input (commands.Overlay s) is ending runs) well refused
