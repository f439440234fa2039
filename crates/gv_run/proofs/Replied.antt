-- From the report of a session and the output to the reply.
use Rattle.std.proofs.Common.{◌≡◌, ℕ, ◌+◌, ◌≤◌, List, [], ◌++◌, length, Some, None, refl, sym, ap, subst, ◌∙◌, inl, inr, codes}
use Rattle.std.specs.Prelude.{Option, IfSome, Result, Ok, slice_get}
use Rattle.std.specs.List.{find}
use Rattle.std.specs.Option.{option_map_or}
use Rattle.gv_base.specs.Causes.{Rose}
use Rattle.gv_base.specs.Counts.{Counts}
use Rattle.gv_base.specs.FileMap.{FileMap}
use Rattle.gv_base.specs.Outside.{gains}
use Rattle.gv_edits.specs.Edits.{edited, edited_told}
use Rattle.gv_facts.specs.Classes.{class_text}
use Rattle.gv_facts.specs.declared.pkg.Pkg.{Pkg}
use Rattle.gv_facts.specs.declared.profile.Profile.{Profile}
use Rattle.gv_reload.specs.EntryEdits.{IsAllBut}
use Rattle.gv_load.specs.Loading.{loading}
use Rattle.gv_load.specs.Repository.{folders_of}
use Rattle.gv_reading.specs.Look.{look_of}
use Rattle.gv_reading.specs.declared.faults.LoadFault.{LoadFault}
use Rattle.gv_reading.specs.declared.faults.LoadFault.TheVariants as loads
use Rattle.gv_load.specs.declared.loading.Repo.{Repo}
use Rattle.gv_checks.specs.declared.fault.JudgeFault.{JudgeFault}
use Rattle.gv_checks.specs.declared.fault.JudgeFault.TheVariants as judges
use Rattle.gv_checks.specs.declared.names.QueryName.{QueryName}
use Rattle.gv_report.specs.Line.{level_text}
use Rattle.gv_session.specs.Session as session
use Rattle.gv_session.specs.Session.{Agrees, ReportCause, State, seen_in}
use Rattle.gv_session.specs.declared.fault.SessionFault.TheVariants.{Load, Judge}
use Rattle.gv_ending.specs.declared.refusal.Refusal.{Refusal}
use Rattle.gv_ending.specs.declared.refusal.Refusal.TheVariants.{NoMemory}
use Rattle.gv_ending.specs.Causes.{Why, of_output}
use Rattle.gv_ending.specs.Endings.{GainsFront}
use Rattle.gv_run.specs.Naming.{has_line, name_text, pkg_text, profile_text}
use Rattle.gv_run.specs.Session.{IsReport, due_by, due_in, report_text}
use Rattle.gv_run.specs.Refusing.{HandsJudge, HandsLoad}
use Rattle.gv_run.specs.SessionSteps.{IsAnswered, IsCut, Sees, answer_causes, make_causes, writing}
use Rattle.gv_run.proofs.Whys.{from_output, why_on}

-- ---- the report

pub is_report : (s : State) (told : Option FileMap) (old new : Counts) (text : List ℕ) → session.IsReport s told old new text → IsReport s.options (edited_told told s.edits) text
is_report s told old new text is = record { repo = is.repo; loaded = is.loaded; within = is.judged.within; text_is = is.judged.text_is }

-- what it does to the session
pub sees : (s s' : State) (told told' : Option FileMap) (old new : Counts) (text : List ℕ) → session.IsReport s told old new text → s'.options ≡ s.options → s'.edits ≡ s.edits → seen_in s' ≡ Some (length s.edits)
    → told' ≡ told → Agrees told' s' → Sees told s s' old.lower new.lower
sees s s' told told' old new text is options edits seen same agrees = record {
  options = options;
  edits = edits;
  seen = seen;
  agrees = subst (λ (x : Option FileMap). Agrees x s') same agrees;
  few = by told is.loaded is.few;
}
  where
    by : (told : Option FileMap) → session.IsLoaded s.edits told is.repo → IfSome told (λ files. new.lower ≤ old.lower + due_by s.options (Ok is.repo) (folders_of (look_of (edited files s.edits))) s.edits (seen_in s))
        → IfSome told (λ files. new.lower ≤ old.lower + due_in s.options files s.edits (seen_in s))
    by None loaded few = tt
    by (Some files) loaded few = subst (λ (r : Result Repo LoadFault). new.lower ≤ old.lower + due_by s.options r (folders_of (look_of (edited files s.edits))) s.edits (seen_in s)) (sym loaded) few

-- a query has the same name in a repository that is the same but for its notes
abbrev named_by : List Pkg → List Profile → QueryName → List ℕ
named_by pkgs profiles name =
    option_map_or pkg_text (slice_get pkgs name.«package») []
    ++ (codes " " ++ (class_text name.class ++ (codes " " ++ (option_map_or profile_text (find (has_line name.context.line) profiles) [] ++ (codes " " ++ level_text name.context.level)))))

same_name : (named repo : Repo) (name : QueryName) → IsAllBut named repo → name_text named name ≡ name_text repo name
same_name named repo name but = ap (λ (ps : List Pkg). named_by ps named.profiles name) (sym but.pkgs) ∙ ap (λ (ps : List Profile). named_by repo.pkgs ps name) (sym but.profiles)

module _ (s : State) (told : Option FileMap) (before now : ℕ) (old new : Counts) where
  abbrev Unmade : Refusal → Type 0
  Unmade = Why (make_causes s told before now)

  pub unloaded : (fault : LoadFault) (refusal : Refusal) → ReportCause s told before now old new (Load fault) → HandsLoad fault refusal → Why (make_causes s told before now) refusal
  unloaded (loads.Tree path) refusal cause is = subst Unmade (sym is) cause.0
  unloaded (loads.NotARepository path) refusal cause is = subst Unmade (sym is) (cause.0, cause.1.1)
  unloaded (loads.Limit place number) refusal cause is = subst Unmade (sym is) (inl (cause.0, cause.1.1))
  unloaded loads.NoMemory refusal cause is = absurd cause

  spent_or_none : (name : _) (sets : _) (named : Repo) (refusal : Refusal) → ReportCause s told before now old new (Judge (judges.Spent name sets) named) → HandsJudge named (judges.Spent name sets) refusal
      → Why (make_causes s told before now) refusal
  spent_or_none name sets named refusal (same, (repo, (loaded, (but, refuses)))) (inl is) = subst Unmade (sym is) (same, (repo, loaded, (name, sets, same_name named repo name but, refuses)))
  spent_or_none name sets named refusal cause (inr is) = subst Unmade (sym is) tt

  pub unjudged : (fault : JudgeFault) (named : Repo) (refusal : Refusal) → ReportCause s told before now old new (Judge fault named) → HandsJudge named fault refusal → Why (make_causes s told before now) refusal
  unjudged (judges.Spent name sets) named refusal cause is = spent_or_none name sets named refusal cause is
  unjudged (judges.Limit place number) named refusal (same, (repo, (loaded, (but, refuses)))) is = subst Unmade (sym is) (inr (inl (same, (repo, loaded, refuses))))
  unjudged judges.NoMemory named refusal cause is = absurd cause.1.1.1

-- ---- the reply

module _ (s : State) (told : Option FileMap) (tb tn : ℕ) where
  pub unmade : (o : Option (List ℕ)) (ob : ℕ) (refusal : Refusal) → Why (make_causes s told tb tn) refusal → Why (answer_causes s told (writing tb tn o o ob ob)) refusal
  unmade o ob =
      why_on (make_causes s told tb tn) (answer_causes s told (writing tb tn o o ob ob))
      (record {
        tree = λ why. ((refl, refl), why);
        store = λ path none. absurd none;
        input = λ refusal none. absurd none;
        output = λ none. absurd none;
        files = λ fault why. ((refl, refl), why);
        queries = λ refusal why. ((refl, refl), why);
        memory = λ any. inl (refl, refl);
      })

  pub no_text : (o : Option (List ℕ)) (ob : ℕ) → Why (answer_causes s told (writing tb tn o o ob ob)) NoMemory
  no_text o ob = inl (refl, refl)

  module _ (calm : tn ≡ tb) (report text : List ℕ) (is : IsReport s.options (edited_told told s.edits) report) (made : text ≡ report_text report) (o o' : Option (List ℕ)) (ob on : ℕ) where
    cut : GainsFront o o' text → IsCut s told (writing tb tn o o' ob on)
    cut front = record { tree = calm; report = report; is = is; front = subst (GainsFront o o') made front }

    pub unwritten : GainsFront o o' text → (refusal : Refusal) → Why (of_output (Rose ob on)) refusal → Why (answer_causes s told (writing tb tn o o' ob on)) refusal
    unwritten front = from_output (Rose ob on) (answer_causes s told (writing tb tn o o' ob on)) (λ rose. (cut front, rose)) (inr (cut front))

    pub answered : o' ≡ gains o text → on ≡ ob → IsAnswered s told (writing tb tn o o' ob on)
    answered out still = record { tree = calm; report = report; is = is; out = subst (λ t. o' ≡ gains o t) made out; calm = still }
