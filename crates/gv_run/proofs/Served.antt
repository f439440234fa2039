-- From reading and performing one command to a whole script.
-- `Goes` composes (`goes_on`), and what ends a session behind the later of two points ends it behind the earlier one
-- (`goes_to_end`, `goes_to_stop`). So the loop over commands has the one invariant that it went from its beginning to
-- here, beside that what the session keeps is so of the tree's files (`Agrees`; lemmas in `Works`).
use Rattle.std.proofs.Common.{◌≡◌, ℕ, ◌+◌, ◌-◌, ◌≤◌, ◌<◌, Bool, true, false, List, [], ◌∷◌, ◌++◌, length, Some, None, refl, sym, ap, subst, ◌∙◌, inl, inr, append_assoc, append-nil, length-append, arith}
use Rattle.std.specs.Prelude.{Option, IfSome, IfErr, Result, Ok, Err, ◌⊎◌}
use Rattle.std.specs.Option.{option_map}
use Rattle.std.proofs.lemmas.Bool.{false≢true}
use Rattle.gv_base.specs.FileMap.{FileMap}
use Rattle.gv_base.specs.Outside.{gains}
use Rattle.gv_edits.specs.Edits.{edited_told}
use Rattle.gv_edits.specs.Pending.{whole}
use Rattle.gv_edits.specs.Script.{Ending, Leads, Reading, Script, led_script, one_more, script_left, script_within, without_commands, Ended, Broken, Passed}
use Rattle.gv_edits.specs.declared.command.Command.{Command}
use Rattle.gv_edits.specs.declared.command.Command.TheVariants.{Put, Cut, Report, End}
use Rattle.gv_edits.specs.declared.edit.Edit.{Edit}
use Rattle.gv_edits.specs.declared.edit.Edit.TheVariants as edits
use Rattle.gv_edits.specs.declared.script.ScriptFault.{ScriptFault}
use Rattle.gv_edits.specs.declared.script.ScriptFault.TheVariants as faults
use Rattle.gv_report.specs.declared.options.Options.{Options}
use Rattle.gv_session.specs.Session.{Agrees, State, seen_in, with_edit}
use Rattle.gv_ending.specs.declared.refusal.Refusal.{Refusal}
use Rattle.gv_ending.specs.declared.refusal.Refusal.TheVariants.{InputFailed, BadCommand, Limit}
use Rattle.gv_ending.specs.Causes.{Why, of_input}
use Rattle.gv_ending.specs.Endings.{GainsFront}
use Rattle.gv_run.specs.Scan.{IsUnloaded}
use Rattle.gv_run.specs.Session.{IsReport, IsUnjudged, Writes, edits_of, report_text, work}
use Rattle.gv_run.specs.SessionSteps.{Ahead, At, Begins, CalmTree, Cuts, DoCause, Does, Ends, Goes, Is, IsCut, IsTooMany, IsUngiven, IsUnread, Left, SameOutput, StepIs, Stops, ahead, answer_causes, at, behind, leaving, stop_causes, work_from, writing}
use Rattle.gv_run.proofs.Gains.{gains-gains}
use Rattle.gv_run.proofs.Heads.{loses_on, passes_nowhere, passes_on, passes_to_end, reads_end, reads_nothing, reads_one}
use Rattle.gv_run.proofs.Whys.{from_input, why_on}
use Rattle.gv_run.proofs.Works.{agrees_on, lowers_edit, lowers_none, lowers_nothing, lowers_on, lowers_report, lowers_to_end}

pub gains_nothing : (held : Option (List ℕ)) → held ≡ gains held []
gains_nothing None = refl
gains_nothing (Some bytes) = ap Some (sym (append-nil bytes))

-- ---- reading

-- where as many commands were read as are allowed, the script is passed
passed_bytes : (left : ℕ) (told : Option (List ℕ)) → left ≡ 0 → IfSome (option_map (script_within left) told) (λ s. s ≡ without_commands Passed)
passed_bytes left None none = tt
passed_bytes left (Some bytes) none = subst (λ n. script_within n bytes ≡ without_commands Passed) (sym none) refl

passed : (r : Reading) (left : Option (List ℕ)) → r.read ≡ 1000000 → IfSome (script_left r left) (λ s. s ≡ without_commands Passed)
unfolding script_left
passed r left full = passed_bytes (1000000 - r.read) (whole r.taken left) (omega (arith, full))

pub no_more : (r s : Reading) (left left' : Option (List ℕ)) (before now : ℕ) (refusal : Refusal) → r.read ≡ 1000000 → s ≡ r → left' ≡ left → length s.taken ≤ 4096 → now ≡ before → IsTooMany refusal
    → Why (of_input (IsUnread (script_left r left) (ahead r.taken left) (ahead s.taken left') r.read before now)) refusal
no_more r s left left' before now refusal full same kept few calm (inl is) =
    subst (Why (of_input (IsUnread (script_left r left) (ahead r.taken left) (ahead s.taken left') r.read before now))) (sym is)
    (inr (inr (reads_nothing r s left left' same kept few, (calm, (full, (refl, (refl, passed r left full)))))))
no_more r s left left' before now refusal full same kept few calm (inr is) =
    subst (Why (of_input (IsUnread (script_left r left) (ahead r.taken left) (ahead s.taken left') r.read before now))) (sym is) tt

-- an input that failed isn't that as many were read
abbrev has_failed : Result Command ScriptFault → Bool
has_failed (Err faults.Failed) = true
has_failed other = false

pub not_full : (result : Result Command ScriptFault) (read : ℕ) → result ≡ Err faults.Failed → (read ≡ 1000000 → result ≡ Err faults.Limit) → read ≡ 1000000 → ⊥
not_full result read is limit full = false≢true (ap has_failed (sym (limit full) ∙ is))

-- ---- what commands write

pub writes_behind : (options : Options) (told : Option FileMap) (es : List Edit) (done more : List Command) (text text' : List ℕ) →
    Writes options told es done text → Writes options told (es ++ edits_of done) more text' → Writes options told es (done ++ more) (text ++ text')
writes_behind options told es [] more text text' nothing writes =
    subst (λ (t : List ℕ). Writes options told es more (t ++ text')) (sym nothing) (subst (λ (xs : List Edit). Writes options told xs more text') (append-nil es) writes)
writes_behind options told es (Put path bytes ∷ cs) more text text' first writes =
    writes_behind options told (es ++ edits.Put path bytes ∷ []) cs more text text' first
    (subst (λ (xs : List Edit). Writes options told xs more text') (sym (append_assoc es (edits.Put path bytes ∷ []) (edits_of cs))) writes)
writes_behind options told es (Cut path ∷ cs) more text text' first writes =
    writes_behind options told (es ++ edits.Cut path ∷ []) cs more text text' first
    (subst (λ (xs : List Edit). Writes options told xs more text') (sym (append_assoc es (edits.Cut path ∷ []) (edits_of cs))) writes)
writes_behind options told es (Report ∷ cs) more text text' (report, is, rest, text_is, first) writes =
    (report, is, rest ++ text', ap (λ (t : List ℕ). t ++ text') text_is ∙ append_assoc (report_text report) rest text', writes_behind options told es cs more rest text' first writes)
writes_behind options told es (End ∷ cs) more text text' first writes = absurd first

pub edits_behind : (done more : List Command) → edits_of (done ++ more) ≡ edits_of done ++ edits_of more
edits_behind [] more = refl
edits_behind (Put path bytes ∷ cs) more = ap (λ (es : List Edit). edits.Put path bytes ∷ es) (edits_behind cs more)
edits_behind (Cut path ∷ cs) more = ap (λ (es : List Edit). edits.Cut path ∷ es) (edits_behind cs more)
edits_behind (Report ∷ cs) more = edits_behind cs more
edits_behind (End ∷ cs) more = edits_behind cs more

-- ---- one command

-- a script that a command which isn't `end` leads begins with it
led_begins : (script rest : Option Script) (command : Command) → ((s : Script) → led_script command s ≡ one_more command s) → script ≡ option_map (led_script command) rest → Begins script (command ∷ [])
led_begins script None command one is = subst (λ x. Begins x (command ∷ [])) (sym is) tt
led_begins script (Some s) command one is = subst (λ x. Begins x (command ∷ [])) (sym is) (s.commands, s.ending, one s)

led_behind : (script rest : Option Script) (command : Command) → ((s : Script) → led_script command s ≡ one_more command s) → script ≡ option_map (led_script command) rest
    → script ≡ option_map (behind (command ∷ [])) rest
led_behind script None command one is = is
led_behind script (Some s) command one is = is ∙ ap Some (one s)

led_end : (script rest : Option Script) → script ≡ option_map (led_script End) rest → Is script (End ∷ []) Ended
led_end script None is = subst (λ x. Is x (End ∷ []) Ended) (sym is) tt
led_end script (Some s) is = subst (λ x. Is x (End ∷ []) Ended) (sym is) refl

begins_nothing : (script : Option Script) → Begins script []
begins_nothing None = tt
begins_nothing (Some s) = (s.commands, s.ending, refl)

is_of : (script : Option Script) (ending : Ending) → IfSome script (λ s. s ≡ without_commands ending) → Is script [] ending
is_of None ending is = tt
is_of (Some s) ending is = is

module _ (told : Option FileMap) (s : State) (script : Option Script) (a b : Ahead) (read : ℕ) (tb ib im : ℕ) (o : Option (List ℕ)) (ob lower : ℕ) where
  stops_here : (Why' : List Command → Type 0) (tn n : ℕ) → Why' [] → Stops told (at s script a read o lower) (leaving b tb tn ib n o ob ob) Why'
  stops_here Why' tn n why = record { done = []; text = []; writes = refl; out = gains_nothing o; out_calm = refl; why = why }

  none : read + 0 ≡ read
  none = omega arith

  -- no command was read
  pub untaken : (refusal : Refusal) → Why (of_input (IsUnread script a b read ib im)) refusal → Why (stop_causes told (at s script a read o lower) (leaving b tb tb ib im o ob ob)) refusal
  untaken =
      from_input (IsUnread script a b read ib im) (stop_causes told (at s script a read o lower) (leaving b tb tb ib im o ob ob)) (λ refusal cause. stops_here _ tb im (refl, by refusal cause))
      (inl (stops_here _ tb im (begins_nothing script)))
    where
      by : (refusal : Refusal) → IsUnread script a b read ib im refusal → IsUngiven (at s script a read o lower) (leaving b tb tb ib im o ob ob) [] refusal
      by InputFailed cause = (begins_nothing script, cause)
      by (BadCommand number) cause = (is_of script Broken cause.1.1, (cause.0, cause.1.0 ∙ ap (λ (n : ℕ). n + 1) (sym none)))
      by (Limit place number) cause = (is_of script Passed cause.1.1.1.1.1, (cause.0, (cause.1.0, (none ∙ cause.1.1.0, (cause.1.1.1.0, cause.1.1.1.1.0)))))
      by other cause = absurd cause

  module _ (rest : Option Script) (calm : im ≡ ib) (tn : ℕ) (o' : Option (List ℕ)) (on : ℕ) where
    abbrev start : At
    start = at s script a read o lower

    abbrev left : Left
    left = leaving b tb tn ib im o' ob on

    stops_still : (Why' : List Command → Type 0) → o' ≡ o → on ≡ ob → Why' [] → Stops told start left Why'
    stops_still Why' out still why = record { done = []; text = []; writes = refl; out = out ∙ gains_nothing o; out_calm = still; why = why }

    told_still : edited_told told s.edits ≡ edited_told told (s.edits ++ edits_of [])
    told_still = ap (λ (es : List Edit). edited_told told es) (sym (append-nil s.edits))

    cut_here : script ≡ option_map (led_script Report) rest → IsCut s told (writing tb tn o o' ob on) → Cuts told start left
    cut_here led cut = record {
      tree = cut.tree;
      input = calm;
      done = [];
      script = led_begins script rest Report (λ x. refl) led;
      text = [];
      writes = refl;
      report = cut.report;
      is = subst (λ f. IsReport s.options f cut.report) told_still cut.is;
      front = subst (λ h. GainsFront h o' (report_text cut.report)) (gains_nothing o) cut.front;
    }

    report_stops : script ≡ option_map (led_script Report) rest → (refusal : Refusal) → Why (answer_causes s told (writing tb tn o o' ob on)) refusal → Why (stop_causes told start left) refusal
    report_stops led =
        why_on (answer_causes s told (writing tb tn o o' ob on)) (stop_causes told start left)
        (record {
          tree = λ why. stops_still _ why.0.0 why.0.1 (led_begins script rest Report (λ x. refl) led, (calm, why.1));
          store = λ path none. absurd none;
          input = λ refusal none. absurd none;
          output = λ why. (cut_here led why.0, why.1);
          files = λ fault why. stops_still _ why.0.0 why.0.1 (led_begins script rest Report (λ x. refl) led, ((why.1.0, calm), subst (λ f. IsUnloaded f fault) told_still why.1.1));
          queries = λ refusal why. stops_still _ why.0.0 why.0.1 (led_begins script rest Report (λ x. refl) led, ((why.1.0, calm), subst (λ f. IsUnjudged s.options f refusal) told_still why.1.1));
          memory = by;
        })
      where
        by : SameOutput (writing tb tn o o' ob on) ⊎ IsCut s told (writing tb tn o o' ob on) → Stops told start left (λ done. Begins script done) ⊎ Cuts told start left
        by (inl same) = inl (stops_still _ same.0 same.1 (begins_nothing script))
        by (inr cut) = inr (cut_here led cut)

    -- it wasn't done
    pub undone : (command : Command) → script ≡ option_map (led_script command) rest → (refusal : Refusal) → DoCause told s command (writing tb tn o o' ob on) refusal → Why (stop_causes told start left) refusal
    undone (Put path bytes) led refusal cause = subst (Why (stop_causes told start left)) (sym cause.0) (inl (stops_still _ cause.1.0 cause.1.1 (begins_nothing script)))
    undone (Cut path) led refusal cause = subst (Why (stop_causes told start left)) (sym cause.0) (inl (stops_still _ cause.1.0 cause.1.1 (begins_nothing script)))
    undone Report led refusal cause = report_stops led refusal cause
    undone End led refusal cause = absurd cause

    pub undone_if : (command : Command) → script ≡ option_map (led_script command) rest → (result : Result Bool Refusal) → IfErr result (DoCause told s command (writing tb tn o o' ob on))
        → IfErr result (Why (stop_causes told start left))
    undone_if command led (Ok over) cause = tt
    undone_if command led (Err refusal) cause = undone command led refusal cause

-- it was
module _ (told : Option FileMap) (s : State) (script : Option Script) (r r' : Reading) (lf lf' : Option (List ℕ)) (tb ib im : ℕ) (o : Option (List ℕ)) (ob lower : ℕ) (rest : Option Script) (calm : im ≡ ib) (tn : ℕ) (o' : Option (List ℕ)) (on : ℕ)
    (s' : State) (counted : r'.read ≡ r.read + 1) (below : r.read < 1000000) (few : length r'.taken ≤ 4096) (lower' : ℕ) where
  abbrev from : At
  from = at s script (ahead r.taken lf) r.read o lower

  abbrev to : At
  to = at s' rest (ahead r'.taken lf') r'.read o' lower'

  abbrev leaves : Left
  leaves = leaving (ahead r'.taken lf') tb tn ib im o' ob on

  one_read : (command : Command) → r'.read ≡ r.read + length (command ∷ [])
  one_read command = omega (arith, counted)

  under : r.read + 0 < 1000000
  under = omega (arith, below)

  edited_once : (command : Command) (edit : Edit) → Leads r r' lf lf' command → ((x : Script) → led_script command x ≡ one_more command x) → edits_of (command ∷ []) ≡ edit ∷ []
      → Writes s.options told s.edits (command ∷ []) [] → ((files : FileMap) (more : List Command) → work_from from files (command ∷ more) ≡ work s.options files (s.edits ++ edit ∷ []) (seen_in s) more)
      → script ≡ option_map (led_script command) rest → s' ≡ with_edit s edit → lower' ≡ lower → o' ≡ o → Goes told from to
  edited_once command edit leads one is writes works led state same out = record {
    done = command ∷ [];
    text = [];
    options = ap (λ (x : State). x.options) state;
    edits = ap (λ (x : State). x.edits) state ∙ ap (λ (es : List Edit). s.edits ++ es) (sym is);
    script = led_behind script rest command one led;
    passes = reads_one r r' lf lf' command leads few one;
    read = one_read command;
    writes = writes;
    out = out ∙ gains_nothing o;
    lowered = lowers_edit told from to command edit works state same;
  }

  module _ (agrees : Agrees told s) where
    edit_steps : (command : Command) (edit : Edit) → Leads r r' lf lf' command → ((x : Script) → led_script command x ≡ one_more command x) → edits_of (command ∷ []) ≡ edit ∷ []
        → Writes s.options told s.edits (command ∷ []) [] → ((files : FileMap) (more : List Command) → work_from from files (command ∷ more) ≡ work s.options files (s.edits ++ edit ∷ []) (seen_in s) more)
        → script ≡ option_map (led_script command) rest → (over : Bool) → (over ≡ false) × ((s' ≡ with_edit s edit) × ((lower' ≡ lower) × ((tn ≡ tb) × ((o' ≡ o) × (on ≡ ob))))) → StepIs told from to leaves over
    edit_steps command edit leads one is writes works led over does =
        subst (StepIs told from to leaves) (sym does.0) (
          edited_once command edit leads one is writes works led does.1.0 does.1.1.0 does.1.1.1.1.0,
          (agrees_on told s s' edit does.1.0 agrees, (does.1.1.1.0, (calm, does.1.1.1.1.1))),
        )

    pub stepped : (command : Command) → Leads r r' lf lf' command → script ≡ option_map (led_script command) rest → (over : Bool) → Does told s command s' (writing tb tn o o' ob on) lower lower' over → StepIs told from to leaves over
    stepped (Put path bytes) leads led over does = edit_steps (Put path bytes) (edits.Put path bytes) leads (λ x. refl) refl refl (λ files more. refl) led over does
    stepped (Cut path) leads led over does = edit_steps (Cut path) (edits.Cut path) leads (λ x. refl) refl refl (λ files more. refl) led over does
    stepped Report leads led over does =
        let sees = does.1.0 in
        let a = does.1.1 in
        subst (StepIs told from to leaves) (sym does.0) (
          record {
            done = Report ∷ [];
            text = report_text a.report;
            options = sees.options;
            edits = sees.edits ∙ sym (append-nil s.edits);
            script = led_behind script rest Report (λ x. refl) led;
            passes = reads_one r r' lf lf' Report leads few (λ x. refl);
            read = one_read Report;
            writes = (a.report, a.is, [], sym (append-nil (report_text a.report)), refl);
            out = a.out;
            lowered = lowers_report told from to sees;
          },
          (sees.agrees, (a.tree, (calm, a.calm))),
        )
    stepped End leads led over does =
        subst (StepIs told from to leaves) (sym does.0)
        (record {
          tree = does.1.1.1.0;
          input = calm;
          done = [];
          script = led_end script rest led;
          read = under;
          passes = reads_end r r' lf lf' End leads few refl;
          text = [];
          writes = refl;
          out = does.1.1.1.1.0 ∙ gains_nothing o;
          out_calm = does.1.1.1.1.1;
          lowered = lowers_none told from lower' does.1.1.0;
        })

-- ---- from a point to a later one, and on

script_behind : (d1 d2 : List Command) (script : Option Script) → option_map (behind d1) (option_map (behind d2) script) ≡ option_map (behind (d1 ++ d2)) script
script_behind d1 d2 None = refl
script_behind d1 d2 (Some s) = ap (λ (cs : List Command). Some (record { commands = cs; ending = s.ending })) (sym (append_assoc d1 d2 s.commands))

is_behind : (done cs : List Command) (ending : Ending) (script rest : Option Script) → script ≡ option_map (behind done) rest → Is rest cs ending → Is script (done ++ cs) ending
is_behind done cs ending script None led is = subst (λ x. Is x (done ++ cs) ending) (sym led) tt
is_behind done cs ending script (Some s) led is =
    subst (λ x. Is x (done ++ cs) ending) (sym led) (ap (λ (x : Script). behind done x) is)

begins_behind : (done cs : List Command) (script rest : Option Script) → script ≡ option_map (behind done) rest → Begins rest cs → Begins script (done ++ cs)
begins_behind done cs script None led begins = subst (λ x. Begins x (done ++ cs)) (sym led) tt
begins_behind done cs script (Some s) led (more, ending, is) =
    subst (λ x. Begins x (done ++ cs)) (sym led)
    (more, ending, ap (λ (x : Script). behind done x) is ∙ ap (λ (xs : List Command). record { commands = xs; ending = ending }) (sym (append_assoc done cs more)))

module _ (told : Option FileMap) (p q : At) (g : Goes told p q) where
  edits_on : (done : List Command) → q.state.edits ++ edits_of done ≡ p.state.edits ++ edits_of (g.done ++ done)
  edits_on done =
      ap (λ (es : List Edit). es ++ edits_of done) g.edits
      ∙ (append_assoc p.state.edits (edits_of g.done) (edits_of done) ∙ ap (λ (es : List Edit). p.state.edits ++ es) (sym (edits_behind g.done done)))

  writes_on : (done : List Command) (text : List ℕ) → Writes q.state.options told q.state.edits done text → Writes p.state.options told p.state.edits (g.done ++ done) (g.text ++ text)
  writes_on done text writes =
      writes_behind p.state.options told p.state.edits g.done done g.text text g.writes
      (subst (λ (es : List Edit). Writes p.state.options told es done text) g.edits (subst (λ (o : Options). Writes o told q.state.edits done text) g.options writes))

  out_on : (text : List ℕ) → gains q.out text ≡ gains p.out (g.text ++ text)
  out_on text = ap (λ h. gains h text) g.out ∙ gains-gains p.out g.text text

  read_on : (done : List Command) → q.read + length done ≡ p.read + length (g.done ++ done)
  read_on done = omega (arith, g.read, length-append g.done done)

  below_on : (done : List Command) → q.read + length done < 1000000 → p.read + length (g.done ++ done) < 1000000
  below_on done few = omega (arith, few, read_on done)

  pub goes_on : (r : At) → Goes told q r → Goes told p r
  goes_on r h = record {
    done = g.done ++ h.done;
    text = g.text ++ h.text;
    options = h.options ∙ g.options;
    edits = h.edits ∙ edits_on h.done;
    script = g.script ∙ (ap (λ x. option_map (behind g.done) x) h.script ∙ script_behind g.done h.done r.script);
    passes = passes_on p.ahead q.ahead g.done g.passes r.ahead h.done h.passes;
    read = h.read ∙ read_on h.done;
    writes = writes_on h.done h.text h.writes;
    out = h.out ∙ out_on h.text;
    lowered = lowers_on told p q g.done g.lowered h.done r h.lowered;
  }

  module _ (l : Left) where
    pub goes_to_end : (lower : ℕ) → Ends told q l lower → Ends told p l lower
    goes_to_end lower e = record {
      tree = e.tree;
      input = e.input;
      done = g.done ++ e.done;
      script = subst (λ (cs : List Command). Is p.script cs Ended) (sym (append_assoc g.done e.done (End ∷ []))) (is_behind g.done (e.done ++ End ∷ []) Ended p.script q.script g.script e.script);
      read = below_on e.done e.read;
      passes = passes_to_end p.ahead q.ahead g.done g.passes l.ahead e.done e.passes;
      text = g.text ++ e.text;
      writes = writes_on e.done e.text e.writes;
      out = e.out ∙ out_on e.text;
      out_calm = e.out_calm;
      lowered = lowers_to_end told p q g.done g.lowered e.done lower e.lowered;
    }

    stops_on : (Here There : List Command → Type 0) → ((done : List Command) → Here done → There (g.done ++ done)) → Stops told q l Here → Stops told p l There
    stops_on Here There on st = record {
      done = g.done ++ st.done;
      text = g.text ++ st.text;
      writes = writes_on st.done st.text st.writes;
      out = st.out ∙ out_on st.text;
      out_calm = st.out_calm;
      why = on st.done st.why;
    }

    at_report : (done : List Command) → Begins q.script (done ++ Report ∷ []) → Begins p.script ((g.done ++ done) ++ Report ∷ [])
    at_report done begins =
        subst (λ (cs : List Command). Begins p.script cs) (sym (append_assoc g.done done (Report ∷ []))) (begins_behind g.done (done ++ Report ∷ []) p.script q.script g.script begins)

    told_on : (done : List Command) → edited_told told (q.state.edits ++ edits_of done) ≡ edited_told told (p.state.edits ++ edits_of (g.done ++ done))
    told_on done = ap (λ (es : List Edit). edited_told told es) (edits_on done)

    cuts_on : Cuts told q l → Cuts told p l
    cuts_on c = record {
      tree = c.tree;
      input = c.input;
      done = g.done ++ c.done;
      script = at_report c.done c.script;
      text = g.text ++ c.text;
      writes = writes_on c.done c.text c.writes;
      report = c.report;
      is = subst (λ (o : Options). IsReport o (edited_told told (p.state.edits ++ edits_of (g.done ++ c.done))) c.report) g.options
          (subst (λ f. IsReport q.state.options f c.report) (told_on c.done) c.is);
      front = subst (λ h. GainsFront h l.out (report_text c.report)) (out_on c.text) c.front;
    }

    ungiven_on : (refusal : Refusal) (done : List Command) → CalmTree l × IsUngiven q l done refusal → CalmTree l × IsUngiven p l (g.done ++ done) refusal
    ungiven_on InputFailed done why = (
      why.0,
      (begins_behind g.done done p.script q.script g.script why.1.0, (loses_on p.ahead q.ahead g.done g.passes l.ahead.left p.read q.read done g.read why.1.1.0, why.1.1.1)),
    )
    ungiven_on (BadCommand number) done why = (why.0, (is_behind g.done done Broken p.script q.script g.script why.1.0, (why.1.1.0, why.1.1.1 ∙ ap (λ (n : ℕ). n + 1) (read_on done))))
    ungiven_on (Limit place number) done why = (
      why.0,
      (
        is_behind g.done done Passed p.script q.script g.script why.1.0,
        (passes_on p.ahead q.ahead g.done g.passes l.ahead done why.1.1.0, (why.1.1.1.0, (sym (read_on done) ∙ why.1.1.1.1.0, why.1.1.1.1.1))),
      ),
    )
    ungiven_on other done why = absurd why.1

    unjudged_on : (refusal : Refusal) (done : List Command) → IsUnjudged q.state.options (edited_told told (q.state.edits ++ edits_of done)) refusal
        → IsUnjudged p.state.options (edited_told told (p.state.edits ++ edits_of (g.done ++ done))) refusal
    unjudged_on refusal done why =
        subst (λ (o : Options). IsUnjudged o (edited_told told (p.state.edits ++ edits_of (g.done ++ done))) refusal) g.options
        (subst (λ f. IsUnjudged q.state.options f refusal) (told_on done) why)

    pub goes_to_stop : (refusal : Refusal) → Why (stop_causes told q l) refusal → Why (stop_causes told p l) refusal
    goes_to_stop =
        why_on (stop_causes told q l) (stop_causes told p l)
        (record {
          tree = λ st. stops_on _ _ (λ done why. (at_report done why.0, why.1)) st;
          store = λ path none. absurd none;
          input = λ refusal st. stops_on _ _ (ungiven_on refusal) st;
          output = λ why. (cuts_on why.0, why.1);
          files = λ fault st. stops_on _ _ (λ done why. (at_report done why.0, (why.1.0, subst (λ f. IsUnloaded f fault) (told_on done) why.1.1))) st;
          queries = λ refusal st. stops_on _ _ (λ done why. (at_report done why.0, (why.1.0, unjudged_on refusal done why.1.1))) st;
          memory = by;
        })
      where
        by : Stops told q l (λ done. Begins q.script done) ⊎ Cuts told q l → Stops told p l (λ done. Begins p.script done) ⊎ Cuts told p l
        by (inl st) = inl (stops_on _ _ (λ done why. begins_behind g.done done p.script q.script g.script why) st)
        by (inr c) = inr (cuts_on c)

pub goes_nowhere : (told : Option FileMap) (p : At) → length p.ahead.taken ≤ 4096 → Goes told p p
goes_nowhere told p few = record {
  done = [];
  text = [];
  options = refl;
  edits = sym (append-nil p.state.edits);
  script = same p.script;
  passes = passes_nowhere p.ahead few;
  read = omega arith;
  writes = refl;
  out = gains_nothing p.out;
  lowered = lowers_nothing told p;
}
  where
    same : (script : Option Script) → script ≡ option_map (behind []) script
    same None = refl
    same (Some x) = refl

-- ---- in the loop over commands

pub goes_further : (told : Option FileMap) (p q : At) (l : Left) (over : Bool) → over ≡ false → StepIs told p q l over → StepIs told p q l false
goes_further told p q l over is step = subst (StepIs told p q l) is step

pub ends_there : (told : Option FileMap) (p q : At) (l : Left) (over : Bool) → over ≡ true → StepIs told p q l over → Ends told p l q.lower
ends_there told p q l over is step = subst (StepIs told p q l) is step

pub goes_from : (told told' : Option FileMap) (p q r : At) → told' ≡ told → Goes told p q → Goes told' q r → Goes told p r
goes_from told told' p q r same g h = goes_on told p q g r (subst (λ (x : Option FileMap). Goes x q r) same h)

module _ (told told' : Option FileMap) (p q : At) (same : told' ≡ told) (g : Goes told p q) (a : Ahead) (tb tb' tn ib ib' im : ℕ) (out : Option (List ℕ)) (ob ob' on : ℕ) (tree : tb' ≡ tb) (input : ib' ≡ ib) (still : ob' ≡ ob) where
  pub stops_from : (refusal : Refusal) → Why (stop_causes told' q (leaving a tb' tn ib' im out ob' on)) refusal → Why (stop_causes told p (leaving a tb tn ib im out ob on)) refusal
  stops_from refusal st =
      goes_to_stop told p q g (leaving a tb tn ib im out ob on) refusal
      (subst (λ (x : Option FileMap). Why (stop_causes x q (leaving a tb tn ib im out ob on)) refusal) same
      (subst (λ (n : ℕ). Why (stop_causes told' q (leaving a n tn ib im out ob on)) refusal) tree
      (subst (λ (n : ℕ). Why (stop_causes told' q (leaving a tb' tn n im out ob on)) refusal) input
      (subst (λ (n : ℕ). Why (stop_causes told' q (leaving a tb' tn ib' im out n on)) refusal) still st))))

  pub ends_from : (lower : ℕ) → Ends told' q (leaving a tb' tn ib' im out ob' on) lower → Ends told p (leaving a tb tn ib im out ob on) lower
  ends_from lower e =
      goes_to_end told p q g (leaving a tb tn ib im out ob on) lower
      (subst (λ (x : Option FileMap). Ends x q (leaving a tb tn ib im out ob on) lower) same
      (subst (λ (n : ℕ). Ends told' q (leaving a n tn ib im out ob on) lower) tree
      (subst (λ (n : ℕ). Ends told' q (leaving a tb' tn n im out ob on) lower) input
      (subst (λ (n : ℕ). Ends told' q (leaving a tb' tn ib' im out n on) lower) still e))))
