-- From a whole script to what a session leaves.
use Rattle.std.proofs.Common.{◌≡◌, ℕ, ◌+◌, ◌≤◌, false, List, [], ◌∷◌, ◌++◌, length, Some, None, refl, sym, ap, subst, ◌∙◌, inl, inr, arith}
use Rattle.std.specs.Prelude.{Option, Ok, Err, ◌⊎◌}
use Rattle.std.specs.Option.{option_map}
use Rattle.gv_base.specs.Counts.{Counts}
use Rattle.gv_base.specs.FileMap.{FileMap}
use Rattle.gv_edits.specs.Pending.{whole}
use Rattle.gv_edits.specs.Script.{Script, Ended, Broken, Passed, script_of}
use Rattle.gv_edits.specs.Script as scripts
use Rattle.gv_edits.specs.declared.command.Command.{Command}
use Rattle.gv_edits.specs.declared.command.Command.TheVariants as commands
use Rattle.gv_edits.specs.declared.edit.Edit.{Edit}
use Rattle.gv_report.specs.declared.options.Options.{Options}
use Rattle.gv_words.specs.declared.command.Command.TheVariants as asked
use Rattle.gv_words.specs.declared.command.Sitting.{Sitting}
use Rattle.gv_ending.specs.declared.refusal.Refusal.{Refusal}
use Rattle.gv_ending.specs.declared.refusal.Refusal.TheVariants.{NoMemory, Limit, InputFailed, BadCommand}
use Rattle.gv_session.specs.declared.last.Last.{Last}
use Rattle.gv_ending.specs.Causes.{Why}
use Rattle.gv_run.specs.Performs.{Performs}
use Rattle.gv_run.specs.Session.{BeginsScript, CutsReport, GivesNone, Halts, HasTaken, IsScript, session_causes}
use Rattle.gv_run.specs.SessionSteps.{Ahead, At, Begins, CalmTree, Cuts, Ends, Is, IsUngiven, Left, Passes, Spells, SpellsToEnd, Stops, ahead, at, leaving, stop_causes}
use Rattle.gv_ending.specs.World.{Fed, Lasts, SameTree, World, fed, world}
use Rattle.gv_run.proofs.Heads.{to_end, to_failure, to_limit}
use Rattle.gv_run.proofs.Served.{gains_nothing}
use Rattle.gv_run.proofs.Whys.{why_on}

is_script : (bytes : Option (List ℕ)) (cs : List Command) (ending : scripts.Ending) → Is (option_map script_of bytes) cs ending → IsScript bytes cs ending
is_script None cs ending is = tt
is_script (Some bs) cs ending is = is

begins_script : (bytes : Option (List ℕ)) (cs : List Command) → Begins (option_map script_of bytes) cs → BeginsScript bytes cs
begins_script None cs begins = tt
begins_script (Some bs) cs begins = begins

begins_so : (bytes : Option (List ℕ)) → BeginsScript bytes []
begins_so None = tt
begins_so (Some bs) = ((script_of bs).commands, (script_of bs).ending, refl)

module _ (s : Sitting) (f f' : Option FileMap) (files : f' ≡ f) (tb tn : ℕ) (tree : tb ≤ tn) (k : Option FileMap) (kb : ℕ) (o o' : Option (List ℕ)) (ob on : ℕ) (out : ob ≤ on) (c c' : Counts)
    (i i' : Option (List ℕ)) (ib im : ℕ) (spare : List ℕ) where
  abbrev old : World
  old = world f tb k kb o ob c

  abbrev new : World
  new = world f' tn k kb o' on c'

  abbrev input : Fed
  input = fed i i' ib im

  abbrev start : At
  start = at (record { options = s.options; edits = []; last = None }) (option_map script_of i) (ahead [] i) 0 o c.lower

  abbrev left : Left
  left = leaving (ahead spare i') tb tn ib im o' ob on

  lasts : Lasts old new
  lasts = record { files = files; tree = tree; store = omega arith; out = out }

  -- the bytes of a script that were taken
  has_taken : (cs : List Command) (ending : scripts.Ending) (Bytes : List ℕ → Type 0) → ((used : List ℕ) → Bytes used → script_of used ≡ record { commands = cs; ending = ending }) → Passes (ahead [] i) (ahead spare i') Bytes
      → HasTaken input cs ending
  has_taken cs ending Bytes of p = record { used = p.used; spare = spare; taken = p.took ∙ ap (λ (bytes : List ℕ). whole bytes i') p.used_are; are = of p.used p.are; few = p.few }

  pub served : Ends f start left c'.lower → Performs (asked.Session s) old new input (Ok false)
  served e = record {
    done = record {
      calm = (e.tree, e.input);
      done = e.done;
      script = is_script i (e.done ++ commands.End ∷ []) Ended e.script;
      taken = has_taken (e.done ++ commands.End ∷ []) Ended (λ used. SpellsToEnd used e.done) (λ used spells. to_end used e.done spells e.read) e.passes;
      text = e.text;
      writes = e.writes;
      out = e.out;
      out_calm = e.out_calm;
      lowered = e.lowered;
      status_is = refl;
    };
    refusal = tt;
    spares = (refl, refl);
    lasts = lasts;
  }

  halts : (Here There : List Command → Type 0) → ((done : List Command) → Here done → There done) → Stops f start left Here → Halts s old new There
  halts Here There of st = record { done = st.done; text = st.text; writes = st.writes; out = st.out; out_calm = st.out_calm; why = of st.done st.why }

  cuts : Cuts f start left → CutsReport s old new input
  cuts cut = record {
    calm = (cut.tree, cut.input);
    done = cut.done;
    script = begins_script i (cut.done ++ commands.Report ∷ []) cut.script;
    text = cut.text;
    writes = cut.writes;
    report = cut.report;
    is = cut.is;
    front = cut.front;
  }

  nothing_read : (done : List Command) → 0 + length done ≡ length done
  nothing_read done = omega arith

  gives_none : (refusal : Refusal) (done : List Command) → CalmTree left × IsUngiven start left done refusal → SameTree old new × GivesNone input done refusal
  gives_none InputFailed done why =
      let lost = why.1.1.0 in
      (why.0, (begins_script i done why.1.0, (record { taken = lost.more; is = lost.took; are = to_failure lost.more done lost.are lost.few }, why.1.1.1)))
  gives_none (BadCommand number) done why = (why.0, (is_script i done Broken why.1.0, (why.1.1.0, why.1.1.1 ∙ ap (λ (n : ℕ). n + 1) (nothing_read done))))
  gives_none (Limit place number) done why = (
    why.0,
    (
      is_script i done Passed why.1.0,
      (
        has_taken done Passed (λ used. Spells used done) (λ used spells. to_limit used done spells why.1.1.1.1.0) why.1.1.0,
        (why.1.1.1.0, (sym (nothing_read done) ∙ why.1.1.1.1.0, why.1.1.1.1.1)),
      ),
    ),
  )
  gives_none other done why = absurd why.1

  refused : (refusal : Refusal) → Why (stop_causes f start left) refusal → Why (session_causes s old new input) refusal
  refused =
      why_on (stop_causes f start left) (session_causes s old new input)
      (record {
        tree = λ st. halts _ _ (λ done why. (begins_script i (done ++ commands.Report ∷ []) why.0, why.1)) st;
        store = λ path none. absurd none;
        input = λ refusal st. halts _ _ (gives_none refusal) st;
        output = λ why. (cuts why.0, why.1);
        files = λ fault st. halts _ _ (λ done why. (begins_script i (done ++ commands.Report ∷ []) why.0, why.1)) st;
        queries = λ refusal st. halts _ _ (λ done why. (begins_script i (done ++ commands.Report ∷ []) why.0, why.1)) st;
        memory = by;
      })
    where
      by : Stops f start left (λ done. Begins (option_map script_of i) done) ⊎ Cuts f start left → Halts s old new (λ done. BeginsScript i done) ⊎ CutsReport s old new input
      by (inl st) = inl (halts _ _ (λ done why. begins_script i done why) st)
      by (inr cut) = inr (cuts cut)

  pub stopped : (refusal : Refusal) → Why (stop_causes f start left) refusal → Performs (asked.Session s) old new input (Err refusal)
  stopped refusal st = record { done = tt; refusal = refused refusal st; spares = (refl, refl); lasts = lasts }

  -- from the point at which a new session stands
  abbrev from : (options : Options) → List Edit → Option Last → Option Script → Ahead → ℕ → Option (List ℕ) → ℕ → At
  from options edits last script ahead read held lower = at (record { options = options; edits = edits; last = last }) script ahead read held lower

  module _ (p : At) (options : p.state.options ≡ s.options) (edits : p.state.edits ≡ []) (last : p.state.last ≡ None) (script : p.script ≡ option_map script_of i) (taken : p.ahead ≡ ahead [] i) (read : p.read ≡ 0)
      (held : p.out ≡ o) (lower : p.lower ≡ c.lower) where
    is_start : p ≡ start
    is_start =
        ap (λ (x : Options). from x p.state.edits p.state.last p.script p.ahead p.read p.out p.lower) options
        ∙ (ap (λ (x : List Edit). from s.options x p.state.last p.script p.ahead p.read p.out p.lower) edits
        ∙ (ap (λ (x : Option Last). from s.options [] x p.script p.ahead p.read p.out p.lower) last
        ∙ (ap (λ (x : Option Script). from s.options [] None x p.ahead p.read p.out p.lower) script
        ∙ (ap (λ (x : Ahead). from s.options [] None (option_map script_of i) x p.read p.out p.lower) taken
        ∙ (ap (λ (x : ℕ). from s.options [] None (option_map script_of i) (ahead [] i) x p.out p.lower) read
        ∙ (ap (λ (x : Option (List ℕ)). from s.options [] None (option_map script_of i) (ahead [] i) 0 x p.lower) held
        ∙ ap (λ (x : ℕ). from s.options [] None (option_map script_of i) (ahead [] i) 0 o x) lower))))))

    pub served_from : Ends f p left c'.lower → Performs (asked.Session s) old new input (Ok false)
    served_from e = served (subst (λ (x : At). Ends f x left c'.lower) is_start e)

    pub stopped_from : (refusal : Refusal) → Why (stop_causes f p left) refusal → Performs (asked.Session s) old new input (Err refusal)
    stopped_from refusal st = stopped refusal (subst (λ (x : At). Why (stop_causes f x left) refusal) is_start st)

-- no memory before the first command was read
pub unserved : (s : Sitting) (f : Option FileMap) (tb : ℕ) (k : Option FileMap) (kb : ℕ) (o : Option (List ℕ)) (ob : ℕ) (c : Counts) (i : Option (List ℕ)) (ib : ℕ)
    → Performs (asked.Session s) (world f tb k kb o ob c) (world f tb k kb o ob c) (fed i i ib ib) (Err NoMemory)
unserved s f tb k kb o ob c i ib = record {
  done = tt;
  refusal = inl (record { done = []; text = []; writes = refl; out = gains_nothing o; out_calm = refl; why = begins_so i });
  spares = (refl, refl);
  lasts = record { files = refl; tree = omega arith; store = omega arith; out = omega arith };
}
