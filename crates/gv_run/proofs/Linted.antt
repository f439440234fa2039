-- From reading, walking and writing to what a lint leaves.
use Rattle.std.proofs.Common.{◌≡◌, ℕ, ◌≤◌, Bool, true, false, not, List, [], ◌∷◌, ◌++◌, filter, refl, sym, ap, subst, ◌∙◌, inl, inr, arith, append_assoc}
use Rattle.std.specs.Prelude.{Option, Some, None, Result, Ok, Err, IfSome, IfOk, IfErr, if◌then◌else◌, ◌⊎◌}
use Rattle.gv_base.specs.Causes.{Rose}
use Rattle.gv_base.specs.Counts.{Counts}
use Rattle.gv_base.specs.FileMap.{FileMap}
use Rattle.gv_base.specs.Outside.{gains}
use Rattle.gv_base.specs.Words.{is_empty}
use Rattle.gv_reading.specs.declared.faults.LoadFault.{LoadFault}
use Rattle.gv_reading.specs.declared.faults.LoadFault.TheVariants as loads
use Rattle.gv_load.specs.declared.loading.Repo.{Repo}
use Rattle.gv_reading.specs.Look.{look_of}
use Rattle.gv_report.specs.declared.options.Options.{Options}
use Rattle.gv_report.specs.declared.report.Report.{Report}
use Rattle.gv_report.specs.Distinct.{ordered}
use Rattle.gv_report.specs.Emitted.{emitted, reports_text}
use Rattle.gv_report.specs.Selecting.{selected}
use Rattle.gv_usedefaults.specs.declared.walk.Walk.{Walk}
use Rattle.gv_usedefaults.specs.Reports.{use_reports}
use Rattle.gv_usedefaults.specs.Walk.{WalkCause, walking}
use Rattle.gv_profcheck.specs.Redundant.{redundant}
use Rattle.gv_profcheck.specs.Unknown.{unknown_reports}
use Rattle.gv_words.specs.Command.{IsCommand, IsOneCommand}
use Rattle.gv_words.specs.declared.command.Command.TheVariants as commands
use Rattle.gv_words.specs.declared.command.Linting.{Linting}
use Rattle.gv_ending.specs.declared.refusal.Refusal.{Refusal}
use Rattle.gv_ending.specs.declared.refusal.Refusal.TheVariants.{TreeFailed, OutputFailed, NoMemory, NotARepository, Limit}
use Rattle.gv_ending.specs.Causes.{Causes, Why, of_output, of_reading}
use Rattle.gv_ending.specs.Endings.{Ending, GainsFront, SaysNothing, TellsRefusal, Told, well_status}
use Rattle.gv_run.specs.Lint.{CutsLint, IsRead, IsUnlinted, IsUnwalked, IsWalked, LintSays, Lints, RepoSays, WalkSays, lint_causes, lint_reports, lint_text}
use Rattle.gv_run.specs.LintSteps.{IsLinted, IsUnmade, IsUnwalkedAt}
use Rattle.gv_run.specs.Performs.{Performs, Runs}
use Rattle.gv_run.specs.Refusing.{HandsLoad}
use Rattle.gv_run.specs.Scan.{IsLoaded, IsUnloaded, said_by, unloaded_status}
use Rattle.gv_run.specs.ScanSteps.{IsUnread}
use Rattle.gv_ending.specs.World.{Fed, Roots, World, world}
use Rattle.gv_run.proofs.AnswerLemmas.{PickedLaw}
use Rattle.gv_run.proofs.Performed.{Ends, ends, five_only, or_five, or_unbegun}
use Rattle.gv_run.proofs.Scanned.{code_said}
use Rattle.gv_run.proofs.Whys.{from_output, why_on}

-- ---- the text

module _ {A : Type 0} (p : A → Bool) where
  picked-append : (xs ys : List A) → filter p (xs ++ ys) ≡ filter p xs ++ filter p ys
  picked-append [] ys = refl
  picked-append (x ∷ xs) ys = by (p x) (picked-append xs ys)
    where
      by : (b : Bool) → filter p (xs ++ ys) ≡ filter p xs ++ filter p ys → (if b then x ∷ filter p (xs ++ ys) else filter p (xs ++ ys)) ≡ (if b then x ∷ filter p xs else filter p xs) ++ filter p ys
      by true rest = ap (λ zs. x ∷ zs) rest
      by false rest = rest

  twice : (xs : List A) → filter p (filter p xs) ≡ filter p xs
  twice [] = refl
  twice (x ∷ xs) = by (p x) refl (twice xs)
    where
      by : (b : Bool) → p x ≡ b → filter p (filter p xs) ≡ filter p xs → filter p (if b then x ∷ filter p xs else filter p xs) ≡ (if b then x ∷ filter p xs else filter p xs)
      by true e rest = rw e (ap (λ ys. x ∷ ys) rest)
      by false e rest = rest

  -- what was picked out before is picked out again
  front_picked : (xs ys : List A) → filter p (filter p xs ++ ys) ≡ filter p (xs ++ ys)
  front_picked xs ys = picked-append (filter p xs) ys ∙ (ap (λ zs. zs ++ filter p ys) (twice xs) ∙ sym (picked-append xs ys))

pub is_text : PickedLaw → (options : Options) (repo : Repo) (walk : Walk) (told : List Report) (text : List ℕ) →
    told ≡ ordered ((filter (selected options) (use_reports repo walk) ++ redundant repo.pkgs) ++ unknown_reports repo.pkgs walk.files) → text ≡ emitted options told → text ≡ lint_text options repo walk
is_text law options repo walk told text are made =
    let uses : List Report = use_reports repo walk in
    let picked : List Report = filter (selected options) uses in
    let versions : List Report = redundant repo.pkgs in
    let names : List Report = unknown_reports repo.pkgs walk.files in
    made
    ∙ (ap (emitted options) are
    ∙ ap (reports_text options.json)
    (law (selected options) ((picked ++ versions) ++ names)
    ∙ ap ordered (ap (filter (selected options)) (append_assoc picked versions names) ∙ front_picked (selected options) uses (versions ++ names))))

-- ---- reading and walking

module _ (told : Option FileMap) (before now : ℕ) where
  abbrev unmade_causes : Causes
  unmade_causes = of_reading (Rose before now) (IsUnmade told before now)

  -- a refusal of loading
  loading_first : (fault : LoadFault) → IsUnread told before now fault → IsUnmade told before now fault
  loading_first (loads.Limit place number) un = (un.0, inl un.1)
  loading_first other un = un

  pub unread : (refusal : Refusal) → Why (of_reading (Rose before now) (IsUnread told before now)) refusal → Why unmade_causes refusal
  unread =
      why_on (of_reading (Rose before now) (IsUnread told before now)) unmade_causes
      (record {
        tree = λ rose. rose;
        store = λ path none. absurd none;
        input = λ refusal none. absurd none;
        output = λ none. absurd none;
        files = loading_first;
        queries = λ refusal none. absurd none;
        memory = λ any. any;
      })

  module _ (repo : Repo) where
    abbrev unwalked_causes : Causes
    unwalked_causes = of_reading (Rose before now) (IsUnwalkedAt told before now repo)

    -- a fault of the walk, handed on
    pub unwalked : (fault : LoadFault) (refusal : Refusal) → WalkCause told before now repo.profiles fault → HandsLoad fault refusal → Why unwalked_causes refusal
    unwalked (loads.Tree path) refusal cause is = subst (Why unwalked_causes) (sym is) cause
    unwalked (loads.NotARepository path) refusal cause is = absurd cause
    unwalked (loads.Limit place number) refusal cause is = subst (Why unwalked_causes) (sym is) (inl cause)
    unwalked loads.NoMemory refusal cause is = subst (Why unwalked_causes) (sym is) tt

-- a refusal of the walk, behind loading
module _ (told : Option FileMap) (before : ℕ) (repo : Repo) (loaded : IsLoaded told repo) where
  walk_second : (now : ℕ) (fault : LoadFault) → IsUnwalkedAt told before now repo fault → IsUnmade told before now fault
  walk_second now (loads.Limit place number) un = (un.0, inr (record { repo = repo; loaded = loaded; refused = un.1 }))
  walk_second now other un = absurd un

  walked_on : (now : ℕ) (refusal : Refusal) → Why (of_reading (Rose before now) (IsUnwalkedAt told before now repo)) refusal → Why (of_reading (Rose before now) (IsUnmade told before now)) refusal
  walked_on now =
      why_on (of_reading (Rose before now) (IsUnwalkedAt told before now repo)) (of_reading (Rose before now) (IsUnmade told before now))
      (record {
        tree = λ rose. rose;
        store = λ path none. absurd none;
        input = λ refusal none. absurd none;
        output = λ none. absurd none;
        files = walk_second now;
        queries = λ refusal none. absurd none;
        memory = λ any. any;
      })

  pub unwalked_behind : (told' : Option FileMap) (middle now : ℕ) → told' ≡ told → middle ≡ before → (refusal : Refusal) → Why (of_reading (Rose middle now) (IsUnwalkedAt told' middle now repo)) refusal
      → Why (of_reading (Rose before now) (IsUnmade told before now)) refusal
  unwalked_behind told' middle now same calm refusal why =
      walked_on now refusal
      (subst (λ n. Why (of_reading (Rose n now) (IsUnwalkedAt told n now repo)) refusal) calm
      (subst (λ (f : Option FileMap). Why (of_reading (Rose middle now) (IsUnwalkedAt f middle now repo)) refusal) same why))

pub is_made : (told : Option FileMap) (repo : Repo) → IsLoaded told repo → (told' : Option FileMap) → told' ≡ told → (walk : Walk) → IsWalked told' repo walk → (options : Options) (text : List ℕ) → text ≡ lint_text options repo walk → IsLinted options told text
is_made told repo loaded told' same walk walked options text is =
    record { repo = repo; walk = walk; loaded = loaded; walked = subst (λ (f : Option FileMap). IsWalked f repo walk) same walked; text_is = is }

-- ---- what is left

module _ (input : Fed) (l : Linting) (f f' : Option FileMap) (tb tn : ℕ) (k : Option FileMap) (kb : ℕ) (c : Counts) (files : f' ≡ f) (tree : tb ≤ tn) (o : Option (List ℕ)) (ob : ℕ) where
  abbrev start : World
  start = world f tb k kb o ob c

  -- there is no text
  pub untold : (refusal : Refusal) → Why (of_reading (Rose tb tn) (IsUnmade f tb tn)) refusal → Performs (commands.Lint l) start (world f' tn k kb o ob c) input (Err refusal)
  untold refusal why = record {
    done = tt;
    refusal = why_on (of_reading (Rose tb tn) (IsUnmade f tb tn)) (lint_causes l start (world f' tn k kb o ob c))
        (record {
          tree = λ rose. ((refl, refl), rose);
          store = λ path none. absurd none;
          input = λ refusal none. absurd none;
          output = λ none. absurd none;
          files = λ fault un. ((refl, refl), un);
          queries = λ refusal none. absurd none;
          memory = λ any. inl (refl, refl);
        }) refusal why;
    spares = ((refl, refl), refl);
    lasts = record { files = files; tree = tree; store = omega arith; out = omega arith };
  }

  module _ (text : List ℕ) (made : IsLinted l.options f text) (calm : tn ≡ tb) (o' : Option (List ℕ)) (on : ℕ) (out : ob ≤ on) where
    abbrev end : World
    end = world f' tn k kb o' on c

    abbrev reads : IsRead start end
    reads = record { tree = calm; repo = made.repo; walk = made.walk; loaded = made.loaded; walked = made.walked }

    pub cut : GainsFront o o' text → (refusal : Refusal) → Why (of_output (Rose ob on)) refusal → Performs (commands.Lint l) start end input (Err refusal)
    cut front refusal why =
        let cuts : CutsLint l start end = record { is_read = reads; front = subst (GainsFront o o') made.text_is front } in
        record {
          done = tt;
          refusal = from_output (Rose ob on) (lint_causes l start end) (λ rose. (cuts, rose)) (inr cuts) refusal why;
          spares = ((refl, refl), refl);
          lasts = record { files = files; tree = tree; store = omega arith; out = out };
        }

    pub linted : o' ≡ gains o text → on ≡ ob → (some : Bool) → some ≡ not (is_empty text) → Performs (commands.Lint l) start end input (Ok some)
    linted wrote still some is = record {
      done = record { is_read = reads; out = wrote ∙ ap (gains o) made.text_is; calm = still; status_is = code_said some text is ∙ ap said_by made.text_is };
      refusal = tt;
      spares = ((refl, refl), refl);
      lasts = record { files = files; tree = tree; store = omega arith; out = out };
    }

-- ---- words of a lint and no fault give its text, or the first refusal

unread_says : (told : Option FileMap) (options : Options) (fault : LoadFault) (status : ℕ) → IsUnloaded told fault → status ≡ unloaded_status fault → IfSome told (λ files. LintSays options files status)
unread_says None options fault status un is = tt
unread_says (Some files) options fault status un is = subst (λ r. RepoSays options files r status) (sym un) is

read_says : (told : Option FileMap) (options : Options) (repo : Repo) (status : ℕ) → IsLoaded told repo → IfSome told (λ files. WalkSays options repo (walking (look_of files) repo.profiles) status)
    → IfSome told (λ files. LintSays options files status)
read_says None options repo status loaded says = tt
read_says (Some files) options repo status loaded says = subst (λ r. RepoSays options files r status) (sym loaded) says

walk_says : (told : Option FileMap) (options : Options) (repo : Repo) (result : Result Walk LoadFault) (status : ℕ) → IfSome told (λ files. walking (look_of files) repo.profiles ≡ result) → WalkSays options repo result status
    → IfSome told (λ files. WalkSays options repo (walking (look_of files) repo.profiles) status)
walk_says None options repo result status is says = tt
walk_says (Some files) options repo result status is says = subst (λ r. WalkSays options repo r status) (sym is) says

unlinted_says : (told : Option FileMap) (options : Options) (place : List ℕ) (number status : ℕ) → IsUnlinted told (loads.Limit place number) → status ≡ 7 → IfSome told (λ files. LintSays options files status)
unlinted_says told options place number status (inl un) is = unread_says told options (loads.Limit place number) status un is
unlinted_says told options place number status (inr un) is =
    read_says told options un.repo status un.loaded (walk_says told options un.repo (Err (loads.Limit place number)) status un.refused is)

module _ (law : IsOneCommand) (words : List (List ℕ)) (entry : Roots) (old new : World) (input : Fed) (l : Linting) (is : IsCommand words (commands.Lint l)) (status : ℕ)
    (tree : Rose old.tree_faults new.tree_faults → ⊥) (out : Rose old.out_faults new.out_faults → ⊥) (err : Told) where
  abbrev Said : Type 0
  Said = (status ≡ 5) ⊎ IfSome old.files (λ files. LintSays l.options files status)

  or_said : (n : ℕ) → (status ≡ n) ⊎ (status ≡ 5) → (status ≡ n → IfSome old.files (λ files. LintSays l.options files status)) → Said
  or_said n (inl at) says = inr (says at)
  or_said n (inr five) says = inl five

  refused_lint : (refusal : Refusal) → Why (lint_causes l old new) refusal → TellsRefusal err refusal status → Said
  refused_lint (TreeFailed path) why tells = absurd (tree why.1)
  refused_lint OutputFailed why tells = absurd (out why.1)
  refused_lint NoMemory why tells = inl (five_only status (or_five err NoMemory status tells))
  refused_lint (NotARepository path) why tells = or_said 6 (or_five err (NotARepository path) status tells) (unread_says old.files l.options (loads.NotARepository path) status why.1.1)
  refused_lint (Limit place number) (inl why) tells = or_said 7 (or_five err (Limit place number) status tells) (unlinted_says old.files l.options place number status why.1.1)
  refused_lint (Limit place number) (inr (inl why)) tells = absurd why
  refused_lint (Limit place number) (inr (inr why)) tells = absurd why
  refused_lint other why tells = absurd why

  ends_lint : (ending : Ending) → Ends (commands.Lint l) entry old new input ending → IfOk ending (λ some. (status ≡ well_status some) × SaysNothing err)
      → IfErr ending (λ refusal. TellsRefusal err refusal status) → Said
  ends_lint (Ok some) ends well refused =
      let r = ends.done.is_read in
      inr (read_says old.files l.options r.repo status r.loaded (walk_says old.files l.options r.repo (Ok r.walk) status r.walked (well.0 ∙ ends.done.status_is)))
  ends_lint (Err refusal) ends well refused = or_unbegun entry old new err (lint_causes l old new) refusal status Said (λ five. inl five) (λ why. refused_lint refusal why refused) refused ends.refusal

  pub complete_lint : (ending : Ending) → Runs words entry old new input ending → IfOk ending (λ some. (status ≡ well_status some) × SaysNothing err) → IfErr ending (λ refusal. TellsRefusal err refusal status) → Said
  complete_lint ending runs well refused = ends_lint ending (ends law words entry old new input (commands.Lint l) is ending runs) well refused
