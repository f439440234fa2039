-- What a session writes, and what a run of `session` leaves.
use Rattle.std.specs.Prelude.{◌≡◌, ◌⊎◌, ℕ, ◌+◌, ◌≤◌, List, [], ◌∷◌, ◌++◌, length, codes, decimal, Option, None, Some, IfSome, Result, Ok, Err}
use Rattle.std.specs.List.{AllByRecursion}
use Rattle.gv_base.specs.Causes.{Rose}
use Rattle.gv_base.specs.FileMap.{FileMap}
use Rattle.gv_base.specs.Outside.{gains}
use Rattle.gv_edits.specs.Edits.{edited, edited_told}
use Rattle.gv_edits.specs.Pending.{whole}
use Rattle.gv_edits.specs.Script.{Ending, Script, script_of, Ended, Broken, Passed}
use Rattle.gv_edits.specs.declared.command.Command.{Command}
use Rattle.gv_edits.specs.declared.command.Command.TheVariants as commands
use Rattle.gv_edits.specs.declared.edit.Edit.{Edit}
use Rattle.gv_edits.specs.declared.edit.Edit.TheVariants.{Put, Cut}
use Rattle.gv_load.specs.Loading.{loading}
use Rattle.gv_load.specs.Repository.{folders_of}
use Rattle.gv_reading.specs.Look.{look_of}
use Rattle.gv_reading.specs.declared.faults.LoadFault.{LoadFault}
use Rattle.gv_load.specs.declared.loading.Folders.{Folders}
use Rattle.gv_load.specs.declared.loading.Repo.{Repo}
use Rattle.gv_report.specs.declared.options.Options.{Options}
use Rattle.gv_checks.specs.Limits.{IsWithin, Refuses}
use Rattle.gv_checks.specs.Queries.{queries}
use Rattle.gv_checks.specs.RepoReports.{scan_text}
use Rattle.gv_session.specs.Due.{due}
use Rattle.gv_ending.specs.declared.refusal.Refusal.{Refusal}
use Rattle.gv_ending.specs.declared.refusal.Refusal.TheVariants.{InputFailed, BadCommand, Limit}
use Rattle.gv_words.specs.declared.command.Sitting.{Sitting}
use Rattle.gv_ending.specs.Causes.{Causes, no_path}
use Rattle.gv_ending.specs.Endings.{GainsFront}
use Rattle.gv_run.specs.Naming.{TellsQuery}
use Rattle.gv_run.specs.Scan.{Fits, IsLoaded, IsPastOne, IsUnloaded, unloaded_status}
use Rattle.gv_ending.specs.World.{Calm, CalmInput, Fed, SameTree, World}

-- ---- what is written

-- the edits among commands
abbrev pub edits_of : List Command → List Edit
edits_of [] = []
edits_of (commands.Put path bytes ∷ cs) = Put path bytes ∷ edits_of cs
edits_of (commands.Cut path ∷ cs) = Cut path ∷ edits_of cs
edits_of (commands.Report ∷ cs) = edits_of cs
edits_of (commands.End ∷ cs) = edits_of cs

-- `report LENGTH`, which counts bytes, and the report
abbrev pub report_text : List ℕ → List ℕ
report_text report = codes "report " ++ (decimal (length report) ++ (codes "\n" ++ report))

-- the text of the scan of the repository of these files, where they are told; each of its queries is within the limits
pub record IsReport (options : Options) (told : Option FileMap) (report : List ℕ) : Type 0 where
  pub repo : Repo
  pub loaded : IsLoaded told repo
  pub within : AllByRecursion IsWithin (queries options repo)
  pub text_is : report ≡ scan_text options repo

-- what commands write behind these edits of a tree's files, where `end` is none of them: for each `report` the line and the
-- report of the files with the edits before it
abbrev pub Writes : Options → (told : Option FileMap) → List Edit → List Command → (text : List ℕ) → Type 0
Writes options told edits [] text = text ≡ []
Writes options told edits (commands.Put path bytes ∷ cs) text = Writes options told (edits ++ Put path bytes ∷ []) cs text
Writes options told edits (commands.Cut path ∷ cs) text = Writes options told (edits ++ Cut path ∷ []) cs text
Writes options told edits (commands.Report ∷ cs) text =
    (report : List ℕ) × IsReport options (edited_told told edits) report × (rest : List ℕ) × (text ≡ report_text report ++ rest) × Writes options told edits cs rest
Writes options told edits (commands.End ∷ cs) text = ⊥

-- ---- what reports lower

-- what a report of these files may lower at most, where the report before saw so many of the edits: what is due in the repository that
-- they load to, and nothing where loading is refused
abbrev pub due_by : Options → Result Repo LoadFault → Folders → List Edit → (seen : Option ℕ) → ℕ
due_by options (Ok repo) folders edits seen = due options repo folders edits seen
due_by options (Err fault) folders edits seen = 0

abbrev pub due_in : Options → (files : FileMap) → List Edit → (seen : Option ℕ) → ℕ
due_in options files edits seen = due_by options (loading (look_of (edited files edits))) (folders_of (look_of (edited files edits))) edits seen

-- the work of commands behind these edits of the files, of which the last report saw so many: a report adds what is due, and sees all
-- edits before it
abbrev pub work : Options → FileMap → List Edit → (seen : Option ℕ) → List Command → ℕ
work options files edits seen [] = 0
work options files edits seen (commands.Put path bytes ∷ cs) = work options files (edits ++ Put path bytes ∷ []) seen cs
work options files edits seen (commands.Cut path ∷ cs) = work options files (edits ++ Cut path ∷ []) seen cs
work options files edits seen (commands.Report ∷ cs) = due_in options files edits seen + work options files edits (Some (length edits)) cs
work options files edits seen (commands.End ∷ cs) = 0

-- ---- which commands the input has, where it tells its bytes

-- exactly these, and so the script ends
abbrev pub IsScript : (left : Option (List ℕ)) → List Command → Ending → Type 0
IsScript left cs ending = IfSome left (λ bytes. script_of bytes ≡ record { commands = cs; ending = ending })

-- these first
abbrev pub BeginsScript : (left : Option (List ℕ)) → List Command → Type 0
BeginsScript left cs = IfSome left (λ bytes. (more : List Command) × (ending : Ending) × (script_of bytes ≡ record { commands = cs ++ more; ending = ending }))

-- these, and then `report`
abbrev pub IsAtReport : (left : Option (List ℕ)) → List Command → Type 0
IsAtReport left cs = BeginsScript left (cs ++ commands.Report ∷ [])

-- ---- what was taken of it

-- the bytes of exactly these commands, and behind them at most as many as one call gives
pub record HasTaken (input : Fed) (cs : List Command) (ending : Ending) : Type 0 where
  pub used : List ℕ
  pub spare : List ℕ
  pub taken : input.old ≡ whole (used ++ spare) input.new
  pub are : script_of used ≡ record { commands = cs; ending = ending }
  pub few : length spare ≤ 4096

-- the bytes of these commands, and behind them no whole one
pub record HasTakenAll (input : Fed) (cs : List Command) : Type 0 where
  pub taken : List ℕ
  pub is : input.old ≡ whole taken input.new
  pub are : script_of taken ≡ record { commands = cs; ending = Broken }

-- ---- what a run leaves

-- `end` was read; the output gained exactly what the commands before it write, and where the files are told no more was lowered than
-- is the work of these commands
pub record Serves (s : Sitting) (old new : World) (input : Fed) (status : ℕ) : Type 0 where
  pub calm : Calm old new input
  pub done : List Command
  pub script : IsScript input.old (done ++ commands.End ∷ []) Ended
  pub taken : HasTaken input (done ++ commands.End ∷ []) Ended
  pub text : List ℕ
  pub writes : Writes s.options old.files [] done text
  pub out : new.out ≡ gains old.out text
  pub out_calm : new.out_faults ≡ old.out_faults
  pub lowered : IfSome old.files (λ files. new.counts.lower ≤ old.counts.lower + work s.options files [] None done)
  pub status_is : status ≡ 0

-- it ended behind these commands; the output gained exactly what they write
pub record Halts (s : Sitting) (old new : World) (Why : (done : List Command) → Type 0) : Type 0 where
  pub done : List Command
  pub text : List ℕ
  pub writes : Writes s.options old.files [] done text
  pub out : new.out ≡ gains old.out text
  pub out_calm : new.out_faults ≡ old.out_faults
  pub why : Why done

-- behind these a report was not written whole: the output gained besides some first bytes of its line and text
pub record CutsReport (s : Sitting) (old new : World) (input : Fed) : Type 0 where
  pub calm : Calm old new input
  pub done : List Command
  pub script : IsAtReport input.old done
  pub text : List ℕ
  pub writes : Writes s.options old.files [] done text
  pub report : List ℕ
  pub is : IsReport s.options (edited_told old.files (edits_of done)) report
  pub front : GainsFront (gains old.out text) new.out (report_text report)

-- why the script gives no command behind these: the input failed, and they are all whole commands that were taken of it; or the next one
-- is bad; or they are as many as are allowed
abbrev pub GivesNone : Fed → (done : List Command) → Refusal → Type 0
GivesNone input done InputFailed = BeginsScript input.old done × (HasTakenAll input done × Rose input.before input.now)
GivesNone input done (BadCommand number) = IsScript input.old done Broken × (CalmInput input × (number ≡ length done + 1))
GivesNone input done (Limit place number) =
    IsScript input.old done Passed × (HasTaken input done Passed × (CalmInput input × ((length done ≡ 1000000) × ((place ≡ codes "script") × (number ≡ 1000000)))))
GivesNone input done other = ⊥

-- a query of these files is refused so
abbrev pub IsUnjudged : Options → (told : Option FileMap) → Refusal → Type 0
IsUnjudged options told refusal = (repo : Repo) × IsLoaded told repo × TellsQuery (Refuses options.budget [] (queries options repo)) repo refusal

-- why a session wasn't served, and what it leaves then
abbrev pub session_causes : Sitting → World → World → Fed → Causes
session_causes s old new input = record {
  tree = Halts s old new (λ done. IsAtReport input.old done × (CalmInput input × Rose old.tree_faults new.tree_faults));
  store = no_path;
  input = λ refusal. Halts s old new (λ done. SameTree old new × GivesNone input done refusal);
  output = CutsReport s old new input × Rose old.out_faults new.out_faults;
  files = λ fault. Halts s old new (λ done. IsAtReport input.old done × (Calm old new input × IsUnloaded (edited_told old.files (edits_of done)) fault));
  queries = λ refusal. Halts s old new (λ done. IsAtReport input.old done × (Calm old new input × IsUnjudged s.options (edited_told old.files (edits_of done)) refusal));
  memory = Halts s old new (λ done. BeginsScript input.old done) ⊎ CutsReport s old new input;
}

-- ---- where nothing outside fails

abbrev pub ending_status : Ending → ℕ
ending_status Ended = 0
ending_status Broken = 8
ending_status Passed = 7

-- at a report: a repository of which no query can be refused is passed by, one with a query past a limit is 7, and else the
-- status is that of loading
abbrev pub SaysAt : Options → Result Repo LoadFault → (Behind : Type 0) → ℕ → Type 0
SaysAt options (Ok repo) Behind status = (Fits options [] repo → Behind) × (IsPastOne options [] repo → status ≡ 7)
SaysAt options (Err fault) Behind status = status ≡ unloaded_status fault

-- the status of the commands behind these edits, and of so an ending
abbrev pub SaysBehind : Options → FileMap → List Edit → List Command → Ending → ℕ → Type 0
SaysBehind options files edits [] ending status = status ≡ ending_status ending
SaysBehind options files edits (commands.Put path bytes ∷ cs) ending status = SaysBehind options files (edits ++ Put path bytes ∷ []) cs ending status
SaysBehind options files edits (commands.Cut path ∷ cs) ending status = SaysBehind options files (edits ++ Cut path ∷ []) cs ending status
SaysBehind options files edits (commands.Report ∷ cs) ending status =
    SaysAt options (loading (look_of (edited files edits))) (SaysBehind options files edits cs ending status) status
SaysBehind options files edits (commands.End ∷ cs) ending status = status ≡ 0

-- the status of a session in which nothing outside fails
abbrev pub SessionSays : Sitting → FileMap → Script → ℕ → Type 0
SessionSays s files script status = SaysBehind s.options files [] script.commands script.ending status
