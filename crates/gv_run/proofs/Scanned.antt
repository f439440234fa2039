-- From reading, judging, keeping and writing to what a scan leaves.
use Rattle.std.proofs.Common.{◌≡◌, ℕ, ◌≤◌, Bool, false, not, List, [], ◌∷◌, refl, ap, subst, ◌∙◌, inl, inr, arith}
use Rattle.std.specs.Prelude.{Option, Ok, Err, IfOk, IfErr, ◌⊎◌}
use Rattle.std.specs.FinMap as map
use Rattle.std.specs.Option.{option_map}
use Rattle.gv_base.specs.Causes.{Rose}
use Rattle.gv_base.specs.Counts.{Counts}
use Rattle.gv_base.specs.FileMap.{FileMap}
use Rattle.gv_base.specs.Outside.{gains}
use Rattle.gv_base.specs.Words.{is_empty}
use Rattle.gv_cert.specs.Known.{KnownRecord}
use Rattle.gv_checks.specs.Certs.{Cert}
use Rattle.gv_words.specs.declared.command.Asked.{Asked}
use Rattle.gv_words.specs.declared.command.Command.TheVariants as commands
use Rattle.gv_run.specs.declared.answering.Answers.{Answers}
use Rattle.gv_ending.specs.declared.refusal.Refusal.{Refusal}
use Rattle.gv_ending.specs.Causes.{FailsAt, Why, of_store}
use Rattle.gv_ending.specs.Endings.{Ending, GainsFront, well_status}
use Rattle.gv_ending.specs.Fetching.{IsGiven}
use Rattle.gv_run.specs.Performs.{Performs}
use Rattle.gv_run.specs.Scan.{said_by}
use Rattle.gv_run.specs.Scanning.{Answered, Keeps, Scanning, Scans, Stopped, StoppedBehind, Unfetched, UnkeptBy, WroteFront, scan_causes, scan_of, scanning_causes}
use Rattle.gv_run.specs.ScanSteps.{HasAnswers, HasLeft, IsKept, IsUnkept, answer_causes, leave_causes, reading, writing}
use Rattle.gv_ending.specs.World.{Fed, World, world}
use Rattle.gv_run.proofs.Whys.{from_store, why_on}

-- whether there is text, as a status
pub code_said : (some : Bool) (text : List ℕ) → some ≡ not (is_empty text) → well_status some ≡ said_by text
code_said some [] is = ap well_status is
code_said some (b ∷ bs) is = ap well_status is

-- ---- of any scan

-- a file of certificates could not be taken
pub untaken : (s : Scanning) (f : Option FileMap) (t : ℕ) (k k' : Option FileMap) (kb kn : ℕ) (o : Option (List ℕ)) (ob : ℕ) (c : Counts) → k' ≡ k → s.Fetching → (Store : List ℕ → Type 0)
    → ((path : List ℕ) → Store path → s.Fetches path × Rose kb kn) → (refusal : Refusal) → Why (of_store Store) refusal → Why (scanning_causes s (world f t k kb o ob c) (world f t k' kn o ob c)) refusal
untaken s f t k k' kb kn o ob c kept fetching Store fails =
    from_store Store (scanning_causes s (world f t k kb o ob c) (world f t k' kn o ob c)) (λ path why. ((fails path why).1, inl ((fails path why).0, un))) (inl un)
  where
    un : Unfetched s (world f t k kb o ob c) (world f t k' kn o ob c)
    un = record { fetching = fetching; tree = refl; kept = kept; out = (refl, refl); steps = refl }

module _ (s : Scanning) (f f' : Option FileMap) (t t' : ℕ) (k : Option FileMap) (kb : ℕ) (o : Option (List ℕ)) (ob : ℕ) (c c' : Counts) (given : List KnownRecord) (given_are : s.Given k given) where
  -- it was refused in reading or judging
  module _ (k' : Option FileMap) (kn : ℕ) (kept : k' ≡ k) (calm : kn ≡ kb) where
    stopped : (Why' : List KnownRecord → Type 0) → Why' given → Stopped s (world f t k kb o ob c) (world f' t' k' kn o ob c') Why'
    stopped Why' why = record { given = given; given_are = given_are; untouched = record { store = (kept, calm); out = (refl, refl) }; why = why }

    pub answers_stop : (refusal : Refusal) → Why (answer_causes s given (reading t t' c c')) refusal → Why (scanning_causes s (world f t k kb o ob c) (world f' t' k' kn o ob c')) refusal
    answers_stop =
        why_on (answer_causes s given (reading t t' c c')) (scanning_causes s (world f t k kb o ob c) (world f' t' k' kn o ob c'))
        (record {
          tree = λ why. stopped _ why;
          store = λ path none. absurd none;
          input = λ refusal none. absurd none;
          output = λ none. absurd none;
          files = λ fault why. stopped _ why;
          queries = λ refusal why. stopped _ why;
          memory = λ any. inr (inl (stopped _ tt));
        })

  -- all queries were answered
  module _ (k' : Option FileMap) (kn : ℕ) (o' : Option (List ℕ)) (on : ℕ) (answers : Answers) (has : HasAnswers s given (reading t t' c c') answers) where
    abbrev before : World
    before = world f t k kb o ob c

    abbrev now : World
    now = world f' t' k' kn o' on c'

    answered : Answered s before now
    answered = record { given = given; given_are = given_are; of = has.of; loaded = has.loaded; tree = has.calm; certs = has.are.certs; are = has.are.are }

    keeps : IsKept s.certs answers.file (writing k k' kb kn o o' ob on) → Keeps s.certs has.are.certs before now
    keeps is = record {
      kept = is.kept ∙ ap (λ file. option_map (λ (files : FileMap). map.insert files s.certs file) k) has.are.file_is;
      calm = is.calm;
    }

    front : GainsFront o o' answers.text → GainsFront o o' (s.prints has.of)
    front some = subst (GainsFront o o') has.are.text_is some

    behind : (Why' : List ℕ → List Cert → Type 0) → Why' (s.prints has.of) has.are.certs → StoppedBehind s before now Why'
    unfolding answered
    behind Why' why = record { answered = answered; why = why }

    -- it was refused in keeping or writing
    pub leave_stops : (refusal : Refusal) → Why (leave_causes s.certs answers (writing k k' kb kn o o' ob on)) refusal → Why (scanning_causes s before now) refusal
    leave_stops =
        why_on (leave_causes s.certs answers (writing k k' kb kn o o' ob on)) (scanning_causes s before now)
        (record {
          tree = λ none. absurd none;
          store = λ path why. (why.0.1, inr (why.0.0, behind _ (why.1.others, (why.1.out, why.1.out_calm))));
          input = λ refusal none. absurd none;
          output = λ why. (why.0, behind _ (keeps why.1.0, front why.1.1));
          files = λ fault none. absurd none;
          queries = λ refusal none. absurd none;
          memory = λ why. inr (inr (behind _ (by why)));
        })
      where
        by : IsUnkept s.certs (writing k k' kb kn o o' ob on) ⊎ (IsKept s.certs answers.file (writing k k' kb kn o o' ob on) × GainsFront o o' answers.text)
            → UnkeptBy s.certs before now ⊎ WroteFront s.certs has.are.certs (s.prints has.of) before now
        by (inl un) = inl (un.others, (un.out, un.out_calm))
        by (inr both) = inr (keeps both.0, front both.1)

    pub scans : (some : Bool) → HasLeft s.certs answers (writing k k' kb kn o o' ob on) some → Scans s before now (well_status some)
    unfolding answered
    scans some left = record {
      answered = answered;
      store = keeps left.kept;
      out = left.out ∙ ap (gains o) has.are.text_is;
      calm = left.calm;
      status_is = code_said some answers.text left.some_is ∙ ap said_by has.are.text_is;
    }

-- ---- of a `scan`

module _ (input : Fed) (a : Asked) (f : Option FileMap) (t : ℕ) (k : Option FileMap) (kb : ℕ) (o : Option (List ℕ)) (ob : ℕ) (c : Counts) where
  abbrev start : World
  start = world f t k kb o ob c

  -- the certificate file could not be taken
  pub unfetched : (k' : Option FileMap) (kn : ℕ) → k' ≡ k → a.fresh ≡ false → kb ≤ kn → (refusal : Refusal) → Why (of_store (FailsAt a.certs kb kn)) refusal
      → Performs (commands.Scan a) start (world f t k' kn o ob c) input (Err refusal)
  unfetched k' kn kept unfresh later refusal why = record {
    done = tt;
    refusal = untaken (scan_of a f) f t k k' kb kn o ob c kept unfresh (FailsAt a.certs kb kn) (λ path fails. fails) refusal why;
    spares = tt;
    lasts = record { files = refl; tree = omega arith; store = later; out = omega arith };
  }

  module _ (given : List KnownRecord) (given_are : IsGiven a.fresh k a.certs given) (f' : Option FileMap) (files : f' ≡ f) (t' : ℕ) (later : t ≤ t') (c' : Counts) where
    pub unanswered : (k' : Option FileMap) (kn : ℕ) → k' ≡ k → kn ≡ kb → (refusal : Refusal) → Why (answer_causes (scan_of a f) given (reading t t' c c')) refusal
        → Performs (commands.Scan a) start (world f' t' k' kn o ob c') input (Err refusal)
    unanswered k' kn kept calm refusal why = record {
      done = tt;
      refusal = answers_stop (scan_of a f) f f' t t' k kb o ob c c' given given_are k' kn kept calm refusal why;
      spares = tt;
      lasts = record { files = files; tree = later; store = omega (arith, calm); out = omega arith };
    }

    module _ (k' : Option FileMap) (kn : ℕ) (o' : Option (List ℕ)) (on : ℕ) (store : kb ≤ kn) (out : ob ≤ on) (answers : Answers) (has : HasAnswers (scan_of a f) given (reading t t' c c') answers) where
      pub left : (ending : Ending) → IfOk ending (HasLeft a.certs answers (writing k k' kb kn o o' ob on)) → IfErr ending (Why (leave_causes a.certs answers (writing k k' kb kn o o' ob on)))
          → Performs (commands.Scan a) start (world f' t' k' kn o' on c') input ending
      left (Ok some) done why = record {
        done = scans (scan_of a f) f f' t t' k kb o ob c c' given given_are k' kn o' on answers has some done;
        refusal = tt;
        spares = tt;
        lasts = record { files = files; tree = later; store = store; out = out };
      }
      left (Err refusal) done why = record {
        done = tt;
        refusal = leave_stops (scan_of a f) f f' t t' k kb o ob c c' given given_are k' kn o' on answers has refusal why;
        spares = tt;
        lasts = record { files = files; tree = later; store = store; out = out };
      }

      -- where the store was fetched from before
      pub left_from : (k1 : Option FileMap) (kb1 : ℕ) → k1 ≡ k → kb1 ≡ kb → (ending : Ending) → IfOk ending (HasLeft a.certs answers (writing k1 k' kb1 kn o o' ob on))
          → IfErr ending (Why (leave_causes a.certs answers (writing k1 k' kb1 kn o o' ob on))) → Performs (commands.Scan a) start (world f' t' k' kn o' on c') input ending
      left_from k1 kb1 kept calm ending done why =
          left ending
          (subst (λ (x : Option FileMap). IfOk ending (HasLeft a.certs answers (writing x k' kb kn o o' ob on))) kept
          (subst (λ (n : ℕ). IfOk ending (HasLeft a.certs answers (writing k1 k' n kn o o' ob on))) calm done))
          (subst (λ (x : Option FileMap). IfErr ending (Why (leave_causes a.certs answers (writing x k' kb kn o o' ob on)))) kept
          (subst (λ (n : ℕ). IfErr ending (Why (leave_causes a.certs answers (writing k1 k' n kn o o' ob on)))) calm why))
