-- From fetching, reading, holding and writing to what a verification leaves.
use Rattle.std.proofs.Common.{◌≡◌, ℕ, ◌≤◌, List, refl, ap, subst, ◌∙◌, inl, inr, arith}
use Rattle.std.specs.Prelude.{Option, Ok, Err}
use Rattle.gv_base.specs.Causes.{Rose}
use Rattle.gv_base.specs.Counts.{Counts}
use Rattle.gv_base.specs.FileMap.{FileMap}
use Rattle.gv_base.specs.Outside.{gains}
use Rattle.gv_cert.specs.Known.{KnownRecord}
use Rattle.gv_load.specs.declared.loading.Repo.{Repo}
use Rattle.gv_words.specs.declared.command.Command.TheVariants as commands
use Rattle.gv_words.specs.declared.command.Verification.{Verification}
use Rattle.gv_ending.specs.declared.refusal.Refusal.{Refusal}
use Rattle.gv_ending.specs.declared.refusal.Refusal.TheVariants.{NoMemory, Limit}
use Rattle.gv_run.specs.declared.verdict.Verdict.{Verdict}
use Rattle.gv_ending.specs.Causes.{FailsAt, Why, of_output, of_queries, of_reading, of_store}
use Rattle.gv_ending.specs.Endings.{GainsFront, well_status}
use Rattle.gv_ending.specs.Fetching.{AreRecordsAt, IsFileAt}
use Rattle.gv_run.specs.Performs.{Performs}
use Rattle.gv_run.specs.Scan.{IsLoaded}
use Rattle.gv_run.specs.ScanSteps.{IsUnread}
use Rattle.gv_run.specs.Verify.{AreFetched, CutsVerdict, HasVerdict, IsVerdict, TellsPast, is_refused, verdict_text, verify_causes}
use Rattle.gv_run.specs.VerifySteps.{IsFound, IsUnheld, IsUntaken, find_causes, seeking}
use Rattle.gv_ending.specs.World.{Fed, Lasts, World, world}
use Rattle.gv_run.proofs.Whys.{from_output, from_queries, from_store, why_on}

-- ---- fetching

pub first_untaken : (v : Verification) (before now : ℕ) (refusal : Refusal) → Why (of_store (FailsAt v.certs before now)) refusal → Why (of_store (IsUntaken v before now)) refusal
first_untaken v before now = from_store (FailsAt v.certs before now) (of_store (IsUntaken v before now)) (λ path fails. (inl fails.0, fails.1)) tt

pub second_untaken : (v : Verification) (before middle now : ℕ) → middle ≡ before → (refusal : Refusal) → Why (of_store (FailsAt v.report middle now)) refusal → Why (of_store (IsUntaken v before now)) refusal
second_untaken v before middle now calm =
    from_store (FailsAt v.report middle now) (of_store (IsUntaken v before now)) (λ path fails. (inr fails.0, subst (λ n. Rose n now) calm fails.1)) tt

pub are_fetched : (v : Verification) (k k' : Option FileMap) (given : List KnownRecord) (report : List ℕ) → AreRecordsAt k v.certs given → k' ≡ k → IsFileAt k' v.report report → AreFetched v k given report
are_fetched v k k' given report reads same is = record { given_are = reads; report_is = subst (λ x. IsFileAt x v.report report) same is }

-- ---- finding

module _ (v : Verification) (f : Option FileMap) (tb : ℕ) (k : Option FileMap) (kb kn : ℕ) (c : Counts) where
  -- a file wasn't fetched
  pub untaken : (refusal : Refusal) → Why (of_store (IsUntaken v kb kn)) refusal → Why (find_causes v (seeking f tb tb k kb kn c c)) refusal
  untaken = from_store (IsUntaken v kb kn) (find_causes v (seeking f tb tb k kb kn c c)) (λ path un. (un.0, (un.1, (refl, refl)))) tt

  -- the repository wasn't read
  pub unread : kn ≡ kb → (tn : ℕ) (refusal : Refusal) → Why (of_reading (Rose tb tn) (IsUnread f tb tn)) refusal → Why (find_causes v (seeking f tb tn k kb kn c c)) refusal
  unread calm tn =
      why_on (of_reading (Rose tb tn) (IsUnread f tb tn)) (find_causes v (seeking f tb tn k kb kn c c))
      (record {
        tree = λ rose. (calm, (rose, refl));
        store = λ path none. absurd none;
        input = λ refusal none. absurd none;
        output = λ none. absurd none;
        files = λ fault un. (calm, (un.0, (refl, un.1)));
        queries = λ refusal none. absurd none;
        memory = λ any. any;
      })

  module _ (given : List KnownRecord) (report : List ℕ) (fetched : AreFetched v k given report) (calm : kn ≡ kb) (repo : Repo) (loaded : IsLoaded f repo) (tn : ℕ) (still : tn ≡ tb) (c' : Counts) where
    past : (refusal : Refusal) → IsUnheld v.options given repo refusal → TellsPast v f k refusal
    past (Limit place number) un = record { repo = repo; given = given; report = report; loaded = loaded; fetched = fetched; refused = un }
    past other un = absurd un

    -- a query is past a limit
    pub unheld : (refusal : Refusal) → Why (of_queries (IsUnheld v.options given repo)) refusal → Why (find_causes v (seeking f tb tn k kb kn c c')) refusal
    unheld = from_queries (IsUnheld v.options given repo) (find_causes v (seeking f tb tn k kb kn c c')) (λ refusal un. (calm, (still, past refusal un))) tt

    pub is_found : (verdict : Verdict) → IsVerdict v.options given repo report verdict → IsFound v (seeking f tb tn k kb kn c c') verdict
    is_found verdict is = record { tree = still; store = calm; repo = repo; given = given; report = report; loaded = loaded; fetched = fetched; is = is }

-- ---- what is left

module _ (input : Fed) (v : Verification) (f f' : Option FileMap) (tb tn : ℕ) (k k' : Option FileMap) (kb kn : ℕ) (c c' : Counts) (files : f' ≡ f) (tree : tb ≤ tn) (kept : k' ≡ k) (store : kb ≤ kn)
    (unsolved : c'.solve ≡ c.solve) (o : Option (List ℕ)) (ob : ℕ) where
  abbrev start : World
  start = world f tb k kb o ob c

  -- there is no verdict
  pub unfound : (refusal : Refusal) → Why (find_causes v (seeking f tb tn k kb kn c c')) refusal → Performs (commands.Verify v) start (world f' tn k' kn o ob c') input (Err refusal)
  unfound refusal why = record {
    done = tt;
    refusal = why_on (find_causes v (seeking f tb tn k kb kn c c')) (verify_causes v start (world f' tn k' kn o ob c'))
        (record {
          tree = λ why. ((refl, refl), why);
          store = λ path why. ((refl, refl), why);
          input = λ refusal none. absurd none;
          output = λ none. absurd none;
          files = λ fault why. ((refl, refl), why);
          queries = λ refusal why. ((refl, refl), why);
          memory = λ any. inl (refl, refl);
        }) refusal why;
    spares = (kept, unsolved);
    lasts = record { files = files; tree = tree; store = store; out = omega arith };
  }

  -- it has no line
  pub no_line : Performs (commands.Verify v) start (world f' tn k' kn o ob c') input (Err NoMemory)
  no_line = record {
    done = tt;
    refusal = inl (refl, refl);
    spares = (kept, unsolved);
    lasts = record { files = files; tree = tree; store = store; out = omega arith };
  }

  module _ (verdict : Verdict) (found : IsFound v (seeking f tb tn k kb kn c c') verdict) (o' : Option (List ℕ)) (on : ℕ) (text : List ℕ) (made : text ≡ verdict_text verdict) (out : ob ≤ on) where
    abbrev end : World
    end = world f' tn k' kn o' on c'

    has : HasVerdict v start end verdict
    has = record {
      tree = found.tree;
      store = found.store;
      repo = found.repo;
      given = found.given;
      report = found.report;
      loaded = found.loaded;
      fetched = found.fetched;
      is = found.is;
    }

    cuts : GainsFront o o' text → CutsVerdict v start end
    cuts front = record { verdict = verdict; has = has; front = subst (GainsFront o o') made front }

    pub line_stops : GainsFront o o' text → (refusal : Refusal) → Why (of_output (Rose ob on)) refusal → Performs (commands.Verify v) start end input (Err refusal)
    line_stops front refusal why = record {
      done = tt;
      refusal = from_output (Rose ob on) (verify_causes v start end) (λ rose. (cuts front, rose)) (inr (cuts front)) refusal why;
      spares = (kept, unsolved);
      lasts = record { files = files; tree = tree; store = store; out = out };
    }

    pub verified : o' ≡ gains o text → on ≡ ob → Performs (commands.Verify v) start end input (Ok (is_refused verdict))
    verified wrote calm = record {
      done = record { verdict = verdict; has = has; out = wrote ∙ ap (gains o) made; calm = calm; status_is = refl };
      refusal = tt;
      spares = (kept, unsolved);
      lasts = record { files = files; tree = tree; store = store; out = out };
    }
