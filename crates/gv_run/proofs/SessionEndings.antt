-- What a session in which nothing outside fails says of its script and the files.
use Rattle.std.proofs.Common.{◌≡◌, ℕ, List, [], ◌∷◌, ◌++◌, Some, None, refl, sym, ap, subst, ◌∙◌, inl, inr, append_assoc, append-nil}
use Rattle.std.specs.Prelude.{Option, IfSome, IfOk, IfErr, Ok, Err, Result, ◌⊎◌}
use Rattle.gv_base.specs.Causes.{Rose}
use Rattle.gv_base.specs.FileMap.{FileMap}
use Rattle.gv_edits.specs.Edits.{edited, edited_told}
use Rattle.gv_edits.specs.Script.{Ended, Broken, Passed, Script, script_of}
use Rattle.gv_edits.specs.Script as scripts
use Rattle.gv_edits.specs.declared.command.Command.{Command}
use Rattle.gv_edits.specs.declared.command.Command.TheVariants as commands
use Rattle.gv_edits.specs.declared.edit.Edit.{Edit}
use Rattle.gv_edits.specs.declared.edit.Edit.TheVariants.{Put, Cut}
use Rattle.gv_load.specs.Loading.{loading}
use Rattle.gv_reading.specs.Look.{look_of}
use Rattle.gv_reading.specs.declared.faults.LoadFault.{LoadFault}
use Rattle.gv_load.specs.declared.loading.Repo.{Repo}
use Rattle.gv_report.specs.declared.options.Options.{Options}
use Rattle.gv_words.specs.Command.{IsCommand, IsOneCommand}
use Rattle.gv_words.specs.declared.command.Command.TheVariants as asked
use Rattle.gv_words.specs.declared.command.Sitting.{Sitting}
use Rattle.gv_checks.specs.Limits as query_faults
use Rattle.gv_checks.specs.Queries.{queries}
use Rattle.gv_ending.specs.declared.refusal.Refusal.{Refusal}
use Rattle.gv_ending.specs.declared.refusal.Refusal.TheVariants.{TreeFailed, OutputFailed, Spent, NoMemory, NotARepository, Limit, InputFailed, BadCommand, Lacks}
use Rattle.gv_ending.specs.Causes.{Why}
use Rattle.gv_ending.specs.Endings.{Ending, SaysNothing, TellsRefusal, Told, refusal_status, well_status}
use Rattle.gv_run.specs.Naming.{TellsQuery}
use Rattle.gv_run.specs.Performs.{Runs}
use Rattle.gv_run.specs.Scan.{Fits, IsPastOne, IsUnloaded, unloaded_status}
use Rattle.gv_run.specs.Session.{Halts, IsAtReport, IsScript, IsUnjudged, SaysAt, SaysBehind, SessionSays, Writes, edits_of, ending_status, session_causes}
use Rattle.gv_ending.specs.World.{Calm, Fed, Roots, World}
use Rattle.gv_run.proofs.Endings.{not_past, not_spent, one_not_spent, one_not_within}
use Rattle.gv_run.proofs.Performed.{Ends, ends, five_only, or_five, or_unbegun}

-- what commands that were performed leave to say
says_done : (options : Options) (files : FileMap) (es : List Edit) (done tail : List Command) (text : List ℕ) (ending : scripts.Ending) (status : ℕ) → Writes options (Some files) es done text
    → SaysBehind options files (es ++ edits_of done) tail ending status → SaysBehind options files es (done ++ tail) ending status
says_done options files es [] tail text ending status writes says = subst (λ (xs : List Edit). SaysBehind options files xs tail ending status) (append-nil es) says
says_done options files es (commands.Put path bytes ∷ cs) tail text ending status writes says =
    says_done options files (es ++ Put path bytes ∷ []) cs tail text ending status writes
    (subst (λ (xs : List Edit). SaysBehind options files xs tail ending status) (sym (append_assoc es (Put path bytes ∷ []) (edits_of cs))) says)
says_done options files es (commands.Cut path ∷ cs) tail text ending status writes says =
    says_done options files (es ++ Cut path ∷ []) cs tail text ending status writes
    (subst (λ (xs : List Edit). SaysBehind options files xs tail ending status) (sym (append_assoc es (Cut path ∷ []) (edits_of cs))) says)
says_done options files es (commands.Report ∷ cs) tail text ending status (report, is, rest, text_is, writes) says =
    subst (λ (r : Result Repo LoadFault). SaysAt options r (SaysBehind options files es (cs ++ tail) ending status) status) (sym is.loaded)
    ((λ fits. says_done options files es cs tail rest ending status writes says), (λ past. one_not_within _ options [] is.repo is.within past))
says_done options files es (commands.End ∷ cs) tail text ending status writes says = absurd writes

module _ (s : Sitting) (status : ℕ) where
  abbrev Said : Option FileMap → Option (List ℕ) → Type 0
  Said told left = IfSome told (λ files. IfSome left (λ bytes. SessionSays s files (script_of bytes) status))

  -- by what the rest of the script says
  tail_says : (told : Option FileMap) (left : Option (List ℕ)) (done tail : List Command) (text : List ℕ) (ending : scripts.Ending) → Writes s.options told [] done text → IsScript left (done ++ tail) ending
      → ((files : FileMap) → SaysBehind s.options files (edits_of done) tail ending status) → Said told left
  tail_says None left done tail text ending writes script says = tt
  tail_says (Some files) None done tail text ending writes script says = tt
  tail_says (Some files) (Some bytes) done tail text ending writes script says =
      subst (λ (x : Script). SessionSays s files x status) (sym script) (says_done s.options files [] done tail text ending status writes (says files))

  -- by what is said at a report
  report_says : (told : Option FileMap) (left : Option (List ℕ)) (done : List Command) (text : List ℕ) → Writes s.options told [] done text → IsAtReport left done
      → ((files : FileMap) → told ≡ Some files → (Behind : Type 0) → SaysAt s.options (loading (look_of (edited files (edits_of done)))) Behind status) → Said told left
  report_says None left done text writes begins says = tt
  report_says (Some files) None done text writes begins says = tt
  report_says (Some files) (Some bytes) done text writes (more, ending, is) says =
      subst (λ (x : Script). SessionSays s files x status)
      (sym (is ∙ ap (λ (cs : List Command). record { commands = cs; ending = ending }) (append_assoc done (commands.Report ∷ []) more)))
      (says_done s.options files [] done (commands.Report ∷ more) text ending status writes (says files refl _))

  unloaded_says : (told : Option FileMap) (es : List Edit) (fault : LoadFault) → IsUnloaded (edited_told told es) fault → status ≡ unloaded_status fault → (files : FileMap) → told ≡ Some files → (Behind : Type 0)
      → SaysAt s.options (loading (look_of (edited files es))) Behind status
  unloaded_says told es fault unloaded is files told_is Behind =
      let at : loading (look_of (edited files es)) ≡ Err fault = subst (λ t. IsUnloaded (edited_told t es) fault) told_is unloaded in
      subst (λ (r : Result Repo LoadFault). SaysAt s.options r Behind status) (sym at) is

  unjudged_says : (told : Option FileMap) (es : List Edit) (refusal : Refusal) → IsUnjudged s.options (edited_told told es) refusal → (refusal_status refusal ≡ 7 → status ≡ 7) → (files : FileMap) → told ≡ Some files
      → (Behind : Type 0) → SaysAt s.options (loading (look_of (edited files es))) Behind status
  unjudged_says told es refusal (repo, loaded, tells) seven files told_is Behind =
      let at : loading (look_of (edited files es)) ≡ Ok repo = subst (λ t. IfSome (edited_told t es) (λ m. loading (look_of m) ≡ Ok repo)) told_is loaded in
      subst (λ (r : Result Repo LoadFault). SaysAt s.options r Behind status) (sym at) (by refusal tells seven)
    where
      by : (refusal : Refusal) → TellsQuery (query_faults.Refuses s.options.budget [] (queries s.options repo)) repo refusal → (refusal_status refusal ≡ 7 → status ≡ 7)
          → (Fits s.options [] repo → Behind) × (IsPastOne s.options [] repo → status ≡ 7)
      by (Spent text) tells seven = (
        (λ fits. not_spent _ s.options [] repo tells.0 tells.1 fits tells.3),
        (λ one. one_not_spent _ s.options [] repo tells.0 tells.1 one tells.3),
      )
      by (Limit place number) tells seven = ((λ fits. not_past _ s.options [] repo place number fits tells), (λ one. seven refl))
      by other tells seven = absurd tells

module _ (law : IsOneCommand) (ws : List (List ℕ)) (entry : Roots) (old new : World) (input : Fed) (s : Sitting) (is_session : IsCommand ws (asked.Session s)) (status : ℕ) where
  abbrev Answer : Type 0
  Answer = (status ≡ 5) ⊎ Said s status old.files input.old

  module _ (tree : Rose old.tree_faults new.tree_faults → ⊥) (fed : Rose input.before input.now → ⊥) (out : Rose old.out_faults new.out_faults → ⊥) (err : Told) where
    -- memory was wanted for the line, or it was told
    or_told : (refusal : Refusal) → TellsRefusal err refusal status → (status ≡ refusal_status refusal → Answer) → Answer
    or_told refusal tells told = elim (or_five err refusal status tells) [
      | inl is ↦ told is
      | inr five ↦ inl five
    ]

    unloaded : (refusal : Refusal) (fault : LoadFault) → refusal_status refusal ≡ unloaded_status fault
        → Halts s old new (λ done. IsAtReport input.old done × (Calm old new input × IsUnloaded (edited_told old.files (edits_of done)) fault)) → TellsRefusal err refusal status → Answer
    unloaded refusal fault same why tells =
        or_told refusal tells
        (λ is. inr (report_says s status old.files input.old why.done why.text why.writes why.why.0 (unloaded_says s status old.files (edits_of why.done) fault why.why.1.1 (is ∙ same))))

    unjudged : (refusal : Refusal) → Halts s old new (λ done. IsAtReport input.old done × (Calm old new input × IsUnjudged s.options (edited_told old.files (edits_of done)) refusal)) → TellsRefusal err refusal status → Answer
    unjudged refusal why tells =
        or_told refusal tells
        (λ is. inr (report_says s status old.files input.old why.done why.text why.writes why.why.0 (unjudged_says s status old.files (edits_of why.done) refusal why.why.1.1 (λ seven. is ∙ seven))))

    -- the script ended so behind these commands
    ended : (refusal : Refusal) (ending : scripts.Ending) → refusal_status refusal ≡ ending_status ending → (done : List Command) (text : List ℕ) → Writes s.options old.files [] done text → IsScript input.old done ending
        → TellsRefusal err refusal status → Answer
    ended refusal ending same done text writes script tells =
        or_told refusal tells
        (λ is. inr (tail_says s status old.files input.old done [] text ending writes (subst (λ (cs : List Command). IsScript input.old cs ending) (sym (append-nil done)) script) (λ files. is ∙ same)))

    refused_says : (refusal : Refusal) → Why (session_causes s old new input) refusal → TellsRefusal err refusal status → Answer
    refused_says (TreeFailed path) why tells = absurd (tree why.why.1.1)
    refused_says OutputFailed why tells = absurd (out why.1)
    refused_says InputFailed why tells = absurd (fed why.why.1.1.1)
    refused_says (BadCommand number) why tells = ended (BadCommand number) Broken refl why.done why.text why.writes why.why.1.0 tells
    refused_says (NotARepository path) why tells = unloaded (NotARepository path) _ refl why tells
    refused_says (Spent text) why tells = unjudged (Spent text) why tells
    refused_says (Lacks part parts query) why tells = unjudged (Lacks part parts query) why tells
    refused_says (Limit place number) (inl why) tells = unloaded (Limit place number) _ refl why tells
    refused_says (Limit place number) (inr (inl why)) tells = unjudged (Limit place number) why tells
    refused_says (Limit place number) (inr (inr why)) tells = ended (Limit place number) Passed refl why.done why.text why.writes why.why.1.0 tells
    refused_says NoMemory why tells = inl (five_only status (or_five err NoMemory status tells))
    refused_says other why tells = absurd why

    ends_say : (ending : Ending) → Ends (asked.Session s) entry old new input ending → IfOk ending (λ some. (status ≡ well_status some) × SaysNothing err) → IfErr ending (λ refusal. TellsRefusal err refusal status) → Answer
    ends_say (Ok some) ends well refused =
        let d = ends.done in
        inr (tail_says s status old.files input.old d.done (commands.End ∷ []) d.text Ended d.writes d.script (λ files. well.0 ∙ d.status_is))
    ends_say (Err refusal) ends well refused =
        or_unbegun entry old new err (session_causes s old new input) refusal status Answer (λ five. inl five) (λ why. refused_says refusal why refused) refused ends.refusal

    pub complete_session : (ending : Ending) → Runs ws entry old new input ending → IfOk ending (λ some. (status ≡ well_status some) × SaysNothing err) → IfErr ending (λ refusal. TellsRefusal err refusal status) → Answer
    complete_session ending runs well refused = ends_say ending (ends law ws entry old new input (asked.Session s) is_session ending runs) well refused
