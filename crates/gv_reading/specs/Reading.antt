-- What is read, step by step, and where that is refused.
use Rattle.std.specs.Prelude.{◌≡◌, ℕ, ◌+◌, nat_lt, Bool, List, [], ◌∷◌, ◌++◌, None, if◌then◌else◌, Result, Ok, Err, length}
use Rattle.std.specs.Option.{is_some}
use Rattle.std.specs.FinMap.{get, insert}
use Rattle.gv_base.specs.Outside.{most_file_bytes}
use Rattle.gv_base.specs.declared.tree.Found.{Found}
use Rattle.gv_base.specs.declared.tree.Found.TheVariants.{File, Dir, Absent}
use Rattle.gv_reading.specs.declared.faults.LoadFault.{LoadFault}
use Rattle.gv_reading.specs.declared.faults.LoadFault.TheVariants.{NotARepository, Limit}
use Rattle.gv_reading.specs.Reader.{Seen}
use Rattle.gv_reading.specs.Look.{Look}

-- a path is read, is listed, or is read and has to be a file; a number that was counted is held against its bound; or a
-- path is read that no later step reads, so that what stands there is counted and let go, unless an earlier step read it
pub data Step : Type 0 where
  read : (path : List ℕ) → Step
  list : (path : List ℕ) → Step
  need : (path : List ℕ) → Step
  bound : (place : List ℕ) → (most : ℕ) → (passes : Bool) → Step
  once : (path : List ℕ) → Step

abbrev pub most_path : ℕ
most_path = 4096

abbrev pub most_files : ℕ
most_files = 400000

-- what was seen, or why reading ended
abbrev pub Out : Type 0
Out = Result Seen LoadFault

abbrev pub with_found : Seen → List ℕ → Found → ℕ → Seen
with_found seen path found files = record { known = insert seen.known path found; found = files }

-- what stands at a path that was not read before. A file that is too large is that, also where it is one too many
abbrev pub with_new : Seen → List ℕ → Found → Out
with_new seen path (File bytes) =
    if nat_lt most_file_bytes (length bytes) then Err (Limit path most_file_bytes)
    else (if nat_lt seen.found most_files then Ok (with_found seen path (File bytes) (seen.found + 1)) else Err (Limit path most_files))
with_new seen path Dir = Ok (with_found seen path Dir seen.found)
with_new seen path Absent = Ok (with_found seen path Absent seen.found)

abbrev pub after_new : Look → Seen → List ℕ → Out
after_new look seen path = if nat_lt most_path (length path) then Err (Limit path most_path) else with_new seen path (look.found path)

-- a path is read once
abbrev pub after_read : Look → Seen → List ℕ → Out
after_read look seen path = if is_some (get seen.known path) then Ok seen else after_new look seen path

abbrev pub after_list : Seen → List ℕ → Out
after_list seen path = if nat_lt most_path (length path) then Err (Limit path most_path) else Ok seen

abbrev pub if_file : List ℕ → Found → Seen → Out
if_file path (File bytes) seen = Ok seen
if_file path Dir seen = Err (NotARepository path)
if_file path Absent seen = Err (NotARepository path)

abbrev pub and_then : Out → (Seen → Out) → Out
and_then (Ok seen) next = next seen
and_then (Err fault) next = Err fault

abbrev pub let_go : Seen → Seen → Out
let_go seen next = Ok (record { known = seen.known; found = next.found })

abbrev pub after_once : Look → Seen → List ℕ → Out
after_once look seen path = if is_some (get seen.known path) then Ok seen else and_then (after_new look seen path) (let_go seen)

abbrev pub after : Look → Seen → Step → Out
after look seen (read path) = after_read look seen path
after look seen (list path) = after_list seen path
after look seen (need path) = and_then (after_read look seen path) (if_file path (look.found path))
after look seen (bound place most passes) = if passes then Err (Limit place most) else Ok seen
after look seen (once path) = after_once look seen path

-- what was seen after all steps, or the first refusal
abbrev pub passed : Look → Seen → List Step → Out
passed look seen [] = Ok seen
passed look seen (step ∷ steps) = and_then (after look seen step) (λ next. passed look next steps)

-- a step asks the tree at a path: it lists it, or reads it where no earlier step did
abbrev pub Asks : Seen → Step → List ℕ → Type 0
Asks seen (read place) path = (place ≡ path) × (get seen.known place ≡ None)
Asks seen (list place) path = place ≡ path
Asks seen (need place) path = (place ≡ path) × (get seen.known place ≡ None)
Asks seen (bound place most passes) path = ⊥
Asks seen (once place) path = (place ≡ path) × (get seen.known place ≡ None)

-- one of these steps asks there, and those before it pass
pub record IsAsked (look : Look) (old : Seen) (steps : List Step) (path : List ℕ) : Type 0 where
  pub front : List Step
  pub step : Step
  pub behind : List Step
  pub seen : Seen
  pub are : steps ≡ front ++ step ∷ behind
  pub passes : passed look old front ≡ Ok seen
  pub asks : Asks seen step path
