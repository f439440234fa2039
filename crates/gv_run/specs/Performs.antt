-- What a run leaves: by cases on the command that is asked for.
use Rattle.std.specs.Prelude.{◌≡◌, ◌⊎◌, ℕ, ◌≤◌, ◌<◌, List, true, Option, None, Some, IfOk, IfErr}
use Rattle.gv_words.specs.Command.{IsCommand, command_of}
use Rattle.gv_words.specs.declared.command.Command.{Command}
use Rattle.gv_words.specs.declared.command.Command.TheVariants.{Scan, Overlay, Part, Merge, Verify, Session, Demo, Lint}
use Rattle.gv_ending.specs.declared.refusal.Refusal.{Refusal}
use Rattle.gv_ending.specs.declared.refusal.Refusal.TheVariants.{BadWords, NoMemory}
use Rattle.gv_ending.specs.Causes.{Causes, Why}
use Rattle.gv_ending.specs.Endings.{Ending, Told, SaysNothing, TellsRefusal, is_status, well_status}
use Rattle.gv_run.specs.Lint.{Lints, lint_causes}
use Rattle.gv_run.specs.Overlaying.{OverlayReports, overlay_causes}
use Rattle.gv_run.specs.Scanning.{Merges, Parts, Reports, merge_causes, part_causes, scan_causes}
use Rattle.gv_run.specs.Session.{Serves, session_causes}
use Rattle.gv_run.specs.Summary.{Summarises, demo_causes}
use Rattle.gv_run.specs.Verify.{Verifies, verify_causes}
use Rattle.gv_ending.specs.World.{Fed, Lasts, Roots, SameOut, SameSteps, SameStore, SameTree, Untouched, World, entered}

-- ---- by the command

-- the folder that it is of
abbrev pub root_of : Command → Option (List ℕ)
root_of (Scan asked) = Some asked.root
root_of (Part asked share) = Some asked.root
root_of (Merge merging) = Some merging.root
root_of (Overlay scan) = Some scan.asked.root
root_of (Verify verification) = Some verification.root
root_of (Session sitting) = Some sitting.root
root_of (Demo number) = None
root_of (Lint linting) = Some linting.root

-- what it leaves where it is done
abbrev pub Done : Command → World → World → Fed → ℕ → Type 0
Done (Scan asked) old new input status = Reports asked old new status
Done (Part asked share) old new input status = Parts asked share old new status
Done (Merge merging) old new input status = Merges merging old new status
Done (Overlay scan) old new input status = OverlayReports scan old new status
Done (Verify verification) old new input status = Verifies verification old new status
Done (Session sitting) old new input status = Serves sitting old new input status
Done (Demo number) old new input status = Summarises number old new status
Done (Lint linting) old new input status = Lints linting old new status

-- why it is refused, and what it leaves then
abbrev pub causes_of : Command → World → World → Fed → Causes
causes_of (Scan asked) old new input = scan_causes asked old new
causes_of (Part asked share) old new input = part_causes asked share old new
causes_of (Merge merging) old new input = merge_causes merging old new
causes_of (Overlay scan) old new input = overlay_causes scan old new
causes_of (Verify verification) old new input = verify_causes verification old new
causes_of (Session sitting) old new input = session_causes sitting old new input
causes_of (Demo number) old new input = demo_causes number old new
causes_of (Lint linting) old new input = lint_causes linting old new

-- what it doesn't touch, however it ends
abbrev pub Spares : Command → World → World → Type 0
Spares (Scan asked) old new = Unit {0}
Spares (Part asked share) old new = SameOut old new
Spares (Merge merging) old new = new.counts.solve ≡ old.counts.solve
Spares (Overlay scan) old new = Unit {0}
Spares (Verify verification) old new = (new.kept ≡ old.kept) × (new.counts.solve ≡ old.counts.solve)
Spares (Session sitting) old new = SameStore old new
Spares (Demo number) old new = SameTree old new × SameStore old new
Spares (Lint linting) old new = SameStore old new × SameSteps old new

-- ---- a command, from its values to what it writes

-- how a command ends, and what it leaves
pub record Performs (command : Command) (old new : World) (input : Fed) (ending : Ending) : Type 0 where
  pub done : IfOk ending (λ some. Done command old new input (well_status some))
  pub refusal : IfErr ending (Why (causes_of command old new input))
  pub spares : Spares command old new
  pub lasts : Lasts old new

-- ---- a run, from the words

-- the words are this command, the tree was entered at its folder, and it touched nothing of what it doesn't touch
pub record Begins (words : List (List ℕ)) (entry : Roots) (old new : World) (command : Command) : Type 0 where
  pub is : IsCommand words command
  pub root : entry.new ≡ entered (root_of command) entry.old
  pub spares : Spares command old new

-- one was done
pub record IsDone (words : List (List ℕ)) (entry : Roots) (old new : World) (input : Fed) (status : ℕ) : Type 0 where
  pub command : Command
  pub begins : Begins words entry old new command
  pub done : Done command old new input status

-- no tree was entered, and nothing was touched
pub record Unbegun (entry : Roots) (old new : World) : Type 0 where
  pub root : entry.new ≡ entry.old
  pub tree : SameTree old new
  pub untouched : Untouched old new
  pub steps : SameSteps old new

-- why none was begun: the words are none, or memory is wanted
abbrev pub BeginsNone : List (List ℕ) → Refusal → Type 0
BeginsNone words BadWords = command_of words ≡ None
BeginsNone words NoMemory = Unit {0}
BeginsNone words other = ⊥

-- one was begun and refused so
pub record IsRefused (words : List (List ℕ)) (entry : Roots) (old new : World) (input : Fed) (refusal : Refusal) : Type 0 where
  pub command : Command
  pub begins : Begins words entry old new command
  pub why : Why (causes_of command old new input) refusal

-- when a run is refused so, and what it leaves then
abbrev pub Refuses : List (List ℕ) → Roots → World → World → Fed → Refusal → Type 0
Refuses words entry old new input refusal = (BeginsNone words refusal × Unbegun entry old new) ⊎ IsRefused words entry old new input refusal

-- how a run ends, and what it leaves
pub record Runs (words : List (List ℕ)) (entry : Roots) (old new : World) (input : Fed) (ending : Ending) : Type 0 where
  pub done : IfOk ending (λ some. IsDone words entry old new input (well_status some))
  pub refusal : IfErr ending (Refuses words entry old new input)
  pub lasts : Lasts old new

-- ---- by the status

-- What a run leaves. The files are never changed, and no count of faults falls
pub record Leaves (words : List (List ℕ)) (entry : Roots) (old new : World) (input : Fed) (err : Told) (status : ℕ) : Type 0 where
  -- one of those that the table of statuses has
  pub statuses : is_status status ≡ true
  -- 0 and 1: the text of a lint stands on out, and the status says whether it is empty; or that of a scan or of a merge, the status says whether it is empty, and the store has the certificates; or,
  -- with 0, it has those of a part and nothing was written; or
  -- the line of a verdict does, and the status says whether the report was refused; or, with 0, the summary of a demo, or what
  -- the commands of a session write, of which the last is `end`
  pub done : status < 2 → IsDone words entry old new input status × SaysNothing err
  -- any other: the run was refused, and tells it by this refusal's line and status; or, with 5, memory was wanted, for the work or for the
  -- line of this refusal
  pub refused : 2 ≤ status → (refusal : Refusal) × Refuses words entry old new input refusal × TellsRefusal err refusal status
  pub lasts : Lasts old new
  pub input_later : input.before ≤ input.now
  pub err_later : err.before ≤ err.now
