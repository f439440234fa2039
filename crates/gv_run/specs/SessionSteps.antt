-- How the steps of a session end: no public contract rests on these words.
-- A session goes from point to point of its script (`At`: its edits and what the last report left, what is left of the
-- script, what the output holds, how much was lowered). `Goes` says which commands were performed between two points,
-- what they wrote, and that no more was lowered than their work, whatever commands come behind them.
use Rattle.std.specs.Prelude.{◌≡◌, ◌⊎◌, ℕ, suc, ◌+◌, ◌≤◌, ◌<◌, List, [], ◌∷◌, ◌++◌, length, codes, Bool, true, false, Option, Some, IfSome}
use Rattle.std.specs.Option.{option_map}
use Rattle.gv_base.specs.Causes.{Rose}
use Rattle.gv_base.specs.FileMap.{FileMap}
use Rattle.gv_base.specs.Outside.{gains}
use Rattle.gv_edits.specs.Edits.{edited_told}
use Rattle.gv_edits.specs.Pending.{whole}
use Rattle.gv_edits.specs.Script.{Ending, Script, script_within, without_commands, Ended, Broken, Passed}
use Rattle.gv_edits.specs.declared.command.Command.{Command}
use Rattle.gv_edits.specs.declared.command.Command.TheVariants.{Put, Cut, Report, End}
use Rattle.gv_edits.specs.declared.edit.Edit.TheVariants as edits
use Rattle.gv_session.specs.Session.{Agrees, State, seen_in, with_edit}
use Rattle.gv_ending.specs.declared.refusal.Refusal.{Refusal}
use Rattle.gv_ending.specs.declared.refusal.Refusal.TheVariants.{InputFailed, BadCommand, Limit, NoMemory}
use Rattle.gv_ending.specs.Endings.{GainsFront}
use Rattle.gv_ending.specs.Causes.{Causes, Why, no_path, no_refusal, of_judging}
use Rattle.gv_run.specs.Scan.{IsUnloaded}
use Rattle.gv_run.specs.Session.{IsReport, IsUnjudged, Writes, due_in, edits_of, report_text, work}

-- ---- reading a command

-- that the limit of commands is passed, or memory is wanted
abbrev pub IsTooMany : Refusal → Type 0
IsTooMany refusal = (refusal ≡ Limit (codes "script") 1000000) ⊎ (refusal ≡ NoMemory)

-- what the reader has taken of the input and not read yet, and what is left of the input, where this is told
pub record Ahead : Type 0 where
  pub taken : List ℕ
  pub left : Option (List ℕ)

abbrev pub ahead : List ℕ → Option (List ℕ) → Ahead
ahead taken left = record { taken = taken; left = left }

-- these commands and then that script
abbrev pub behind : List Command → Script → Script
behind cs script = record { commands = cs ++ script.commands; ending = script.ending }

-- bytes that spell these commands, whatever comes behind them
abbrev pub Spells : List ℕ → List Command → Type 0
Spells bytes cs = (most : ℕ) (rest : List ℕ) → script_within (length cs + most) (bytes ++ rest) ≡ behind cs (script_within most rest)

-- bytes that spell these and then `end`
abbrev pub SpellsToEnd : List ℕ → List Command → Type 0
SpellsToEnd bytes cs = (most : ℕ) (rest : List ℕ) → script_within (length cs + suc most) (bytes ++ rest) ≡ record { commands = cs ++ End ∷ []; ending = Ended }

-- from here to there bytes were read that are so, and more were taken
pub record Passes (a b : Ahead) (Bytes : List ℕ → Type 0) : Type 0 where
  pub used : List ℕ
  pub more : List ℕ
  pub took : a.left ≡ whole more b.left
  pub used_are : a.taken ++ more ≡ used ++ b.taken
  pub are : Bytes used
  pub few : length b.taken ≤ 4096

-- the input failed, where of what is left this is: behind these commands there was no whole one in all that was taken
pub record IsLost (a : Ahead) (left : Option (List ℕ)) (read : ℕ) (cs : List Command) : Type 0 where
  pub more : List ℕ
  pub took : a.left ≡ whole more left
  pub few : read + length cs < 1000000
  pub are : (most : ℕ) → script_within (length cs + suc most) (a.taken ++ more) ≡ record { commands = cs; ending = Broken }

-- why no command was read, where this was left of the script, this was ahead and is, and so many had been read
abbrev pub IsUnread : Option Script → (old new : Ahead) → (read before now : ℕ) → Refusal → Type 0
IsUnread script old new read before now InputFailed = IsLost old new.left read [] × Rose before now
IsUnread script old new read before now (BadCommand number) = (now ≡ before) × ((number ≡ read + 1) × IfSome script (λ s. s ≡ without_commands Broken))
IsUnread script old new read before now (Limit place number) =
    Passes old new (λ used. Spells used [])
    × ((now ≡ before) × ((read ≡ 1000000) × ((place ≡ codes "script") × ((number ≡ 1000000) × IfSome script (λ s. s ≡ without_commands Passed)))))
IsUnread script old new read before now other = ⊥

-- ---- a report

-- why there is none
abbrev pub make_causes : State → (told : Option FileMap) → (before now : ℕ) → Causes
make_causes s told before now =
    of_judging (Rose before now) (λ fault. (now ≡ before) × IsUnloaded (edited_told told s.edits) fault) (λ refusal. (now ≡ before) × IsUnjudged s.options (edited_told told s.edits) refusal)

-- what a report does to the session: it sees all edits, what it leaves is so of the files, and no more was lowered than is due
pub record Sees (told : Option FileMap) (s s' : State) (before now : ℕ) : Type 0 where
  pub options : s'.options ≡ s.options
  pub edits : s'.edits ≡ s.edits
  pub seen : seen_in s' ≡ Some (length s.edits)
  pub agrees : Agrees told s'
  pub few : IfSome told (λ files. now ≤ before + due_in s.options files s.edits (seen_in s))

-- how tree and output are left
pub record Written : Type 0 where
  pub tree_before : ℕ
  pub tree_now : ℕ
  pub out : Option (List ℕ)
  pub out' : Option (List ℕ)
  pub out_before : ℕ
  pub out_now : ℕ

abbrev pub writing : (tree_before tree_now : ℕ) → (out out' : Option (List ℕ)) → (out_before out_now : ℕ) → Written
writing tree_before tree_now out out' out_before out_now = record {
  tree_before = tree_before;
  tree_now = tree_now;
  out = out;
  out' = out';
  out_before = out_before;
  out_now = out_now;
}

-- nothing was written, and the output didn't fail
abbrev pub SameOutput : Written → Type 0
SameOutput w = (w.out' ≡ w.out) × (w.out_now ≡ w.out_before)

-- the tree didn't fail, and of the report's line and text some first bytes were written
pub record IsCut (s : State) (told : Option FileMap) (w : Written) : Type 0 where
  pub tree : w.tree_now ≡ w.tree_before
  pub report : List ℕ
  pub is : IsReport s.options (edited_told told s.edits) report
  pub front : GainsFront w.out w.out' (report_text report)

-- the report was written whole
pub record IsAnswered (s : State) (told : Option FileMap) (w : Written) : Type 0 where
  pub tree : w.tree_now ≡ w.tree_before
  pub report : List ℕ
  pub is : IsReport s.options (edited_told told s.edits) report
  pub out : w.out' ≡ gains w.out (report_text report)
  pub calm : w.out_now ≡ w.out_before

-- why it wasn't
abbrev pub answer_causes : State → (told : Option FileMap) → Written → Causes
answer_causes s told w = record {
  tree = SameOutput w × Rose w.tree_before w.tree_now;
  store = no_path;
  input = no_refusal;
  output = IsCut s told w × Rose w.out_before w.out_now;
  files = λ fault. SameOutput w × ((w.tree_now ≡ w.tree_before) × IsUnloaded (edited_told told s.edits) fault);
  queries = λ refusal. SameOutput w × ((w.tree_now ≡ w.tree_before) × IsUnjudged s.options (edited_told told s.edits) refusal);
  memory = SameOutput w ⊎ IsCut s told w;
}

-- ---- one command

-- what a command does, and whether it ends the session, where so much was lowered before and now
abbrev pub Does : (told : Option FileMap) → State → Command → State → Written → (before now : ℕ) → (over : Bool) → Type 0
Does told s (Put path bytes) s' w before now over =
    (over ≡ false) × ((s' ≡ with_edit s (edits.Put path bytes)) × ((now ≡ before) × ((w.tree_now ≡ w.tree_before) × SameOutput w)))
Does told s (Cut path) s' w before now over = (over ≡ false) × ((s' ≡ with_edit s (edits.Cut path)) × ((now ≡ before) × ((w.tree_now ≡ w.tree_before) × SameOutput w)))
Does told s Report s' w before now over = (over ≡ false) × (Sees told s s' before now × IsAnswered s told w)
Does told s End s' w before now over = (over ≡ true) × ((s' ≡ s) × ((now ≡ before) × ((w.tree_now ≡ w.tree_before) × SameOutput w)))

-- why it isn't done
abbrev pub DoCause : (told : Option FileMap) → State → Command → Written → Refusal → Type 0
DoCause told s (Put path bytes) w refusal = (refusal ≡ NoMemory) × SameOutput w
DoCause told s (Cut path) w refusal = (refusal ≡ NoMemory) × SameOutput w
DoCause told s Report w refusal = Why (answer_causes s told w) refusal
DoCause told s End w refusal = ⊥

-- ---- from a point of the script on

-- where a session stands: its options and edits and what the last report left, what is left of the script, what is ahead of the reader,
-- how many commands were read, what the output holds, and how much was lowered
pub record At : Type 0 where
  pub state : State
  pub script : Option Script
  pub ahead : Ahead
  pub read : ℕ
  pub out : Option (List ℕ)
  pub lower : ℕ

abbrev pub at : State → Option Script → Ahead → ℕ → Option (List ℕ) → ℕ → At
at state script ahead read out lower = record { state = state; script = script; ahead = ahead; read = read; out = out; lower = lower }

-- the work of commands from here
abbrev pub work_from : At → FileMap → List Command → ℕ
work_from p files cs = work p.state.options files p.state.edits (seen_in p.state) cs

-- no more was lowered from here than is the work of these commands
abbrev pub LowersAll : (told : Option FileMap) → At → List Command → (lower : ℕ) → Type 0
LowersAll told p done lower = IfSome told (λ files. lower ≤ p.lower + work_from p files done)

-- from here to there neither, whatever comes behind them
abbrev pub Lowers : (told : Option FileMap) → (p q : At) → List Command → Type 0
Lowers told p q done = IfSome told (λ files. (more : List Command) → q.lower + work_from q files more ≤ p.lower + work_from p files (done ++ more))

-- from here to there these commands were performed, none of which is `end`
pub record Goes (told : Option FileMap) (p q : At) : Type 0 where
  pub done : List Command
  pub text : List ℕ
  pub options : q.state.options ≡ p.state.options
  pub edits : q.state.edits ≡ p.state.edits ++ edits_of done
  pub script : p.script ≡ option_map (behind done) q.script
  pub passes : Passes p.ahead q.ahead (λ used. Spells used done)
  pub read : q.read ≡ p.read + length done
  pub writes : Writes p.state.options told p.state.edits done text
  pub out : q.out ≡ gains p.out text
  pub lowered : Lowers told p q done

-- the script from here is these commands, and so it ends; or it begins with these
abbrev pub Is : Option Script → List Command → Ending → Type 0
Is script cs ending = IfSome script (λ s. s ≡ record { commands = cs; ending = ending })

abbrev pub Begins : Option Script → List Command → Type 0
Begins script cs = IfSome script (λ s. (more : List Command) × (ending : Ending) × (s ≡ record { commands = cs ++ more; ending = ending }))

-- how tree, input and output are left, and what of the input
pub record Left : Type 0 where
  pub ahead : Ahead
  pub tree_before : ℕ
  pub tree_now : ℕ
  pub input_before : ℕ
  pub input_now : ℕ
  pub out : Option (List ℕ)
  pub out_before : ℕ
  pub out_now : ℕ

abbrev pub leaving : Ahead → (tree_before tree_now input_before input_now : ℕ) → (out : Option (List ℕ)) → (out_before out_now : ℕ) → Left
leaving ahead tree_before tree_now input_before input_now out out_before out_now = record {
  ahead = ahead;
  tree_before = tree_before;
  tree_now = tree_now;
  input_before = input_before;
  input_now = input_now;
  out = out;
  out_before = out_before;
  out_now = out_now;
}

abbrev pub CalmTree : Left → Type 0
CalmTree l = l.tree_now ≡ l.tree_before

abbrev pub CalmFed : Left → Type 0
CalmFed l = l.input_now ≡ l.input_before

-- `end` was read, when so much was lowered
pub record Ends (told : Option FileMap) (p : At) (l : Left) (lower : ℕ) : Type 0 where
  pub tree : CalmTree l
  pub input : CalmFed l
  pub done : List Command
  pub script : Is p.script (done ++ End ∷ []) Ended
  pub read : p.read + length done < 1000000
  pub passes : Passes p.ahead l.ahead (λ used. SpellsToEnd used done)
  pub text : List ℕ
  pub writes : Writes p.state.options told p.state.edits done text
  pub out : l.out ≡ gains p.out text
  pub out_calm : l.out_now ≡ l.out_before
  pub lowered : LowersAll told p done lower

-- a command was performed: the session goes on from there, or has ended
abbrev pub StepIs : (told : Option FileMap) → (p q : At) → Left → (over : Bool) → Type 0
StepIs told p q l false = Goes told p q × (Agrees told q.state × (CalmTree l × (CalmFed l × (l.out_now ≡ l.out_before))))
StepIs told p q l true = Ends told p l q.lower

-- it was ended behind these commands
pub record Stops (told : Option FileMap) (p : At) (l : Left) (Why : List Command → Type 0) : Type 0 where
  pub done : List Command
  pub text : List ℕ
  pub writes : Writes p.state.options told p.state.edits done text
  pub out : l.out ≡ gains p.out text
  pub out_calm : l.out_now ≡ l.out_before
  pub why : Why done

-- behind these a report was cut
pub record Cuts (told : Option FileMap) (p : At) (l : Left) : Type 0 where
  pub tree : CalmTree l
  pub input : CalmFed l
  pub done : List Command
  pub script : Begins p.script (done ++ Report ∷ [])
  pub text : List ℕ
  pub writes : Writes p.state.options told p.state.edits done text
  pub report : List ℕ
  pub is : IsReport p.state.options (edited_told told (p.state.edits ++ edits_of done)) report
  pub front : GainsFront (gains p.out text) l.out (report_text report)

-- why it was, in reading on
abbrev pub IsUngiven : At → Left → List Command → Refusal → Type 0
IsUngiven p l done InputFailed = Begins p.script done × (IsLost p.ahead l.ahead.left p.read done × Rose l.input_before l.input_now)
IsUngiven p l done (BadCommand number) = Is p.script done Broken × (CalmFed l × (number ≡ (p.read + length done) + 1))
IsUngiven p l done (Limit place number) =
    Is p.script done Passed
    × (Passes p.ahead l.ahead (λ used. Spells used done) × (CalmFed l × ((p.read + length done ≡ 1000000) × ((place ≡ codes "script") × (number ≡ 1000000)))))
IsUngiven p l done other = ⊥

-- why it was
abbrev pub stop_causes : (told : Option FileMap) → At → Left → Causes
stop_causes told p l = record {
  tree = Stops told p l (λ done. Begins p.script (done ++ Report ∷ []) × (CalmFed l × Rose l.tree_before l.tree_now));
  store = no_path;
  input = λ refusal. Stops told p l (λ done. CalmTree l × IsUngiven p l done refusal);
  output = Cuts told p l × Rose l.out_before l.out_now;
  files = λ fault. Stops told p l (λ done. Begins p.script (done ++ Report ∷ []) × ((CalmTree l × CalmFed l) × IsUnloaded (edited_told told (p.state.edits ++ edits_of done)) fault));
  queries = λ refusal.
      Stops told p l (λ done. Begins p.script (done ++ Report ∷ []) × ((CalmTree l × CalmFed l) × IsUnjudged p.state.options (edited_told told (p.state.edits ++ edits_of done)) refusal));
  memory = Stops told p l (λ done. Begins p.script done) ⊎ Cuts told p l;
}
