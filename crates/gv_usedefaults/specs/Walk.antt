-- The walk over the profiles of a repository: the files whose lines are looked at, and the stack of each profile.
use Rattle.std.specs.Prelude.{◌≡◌, ℕ, ◌==◌, Bool, true, if◌then◌else◌, List, [], ◌∷◌, Option, Some, None, IfSome, Result, Ok, Err, map, filter_map}
use Rattle.std.specs.List.{find}
use Rattle.std.specs.Option.{option_map, option_map_or}
use Rattle.gv_base.specs.Causes.{Rose}
use Rattle.gv_base.specs.FileMap.{FileMap}
use Rattle.gv_facts.specs.declared.profile.Profile.{Profile}
use Rattle.gv_profile.specs.Names.{profiles}
use Rattle.gv_profile.specs.Paths.{resolved}
use Rattle.gv_profile.specs.Walking.{most_visits}
use Rattle.gv_reading.specs.declared.faults.LoadFault.{LoadFault}
use Rattle.gv_reading.specs.declared.faults.LoadFault.TheVariants.{Tree, NotARepository, Limit, NoMemory}
use Rattle.gv_usedefaults.specs.declared.file_kinds.LineFile.{LineFile}
use Rattle.gv_usedefaults.specs.LineFiles.{are_small, reading_lines}
use Rattle.gv_reading.specs.Look.{Look, look_of}
use Rattle.gv_load.specs.Paths.{stack_place}
use Rattle.gv_usedefaults.specs.declared.stacks.Stack.{Stack}
use Rattle.gv_usedefaults.specs.declared.walk.Walk.{Walk}
use Rattle.gv_usedefaults.specs.Stacks.{is_long, stack_from}

-- the directory of a profile; none where its path leaves the root or is the root
abbrev pub dir_of : Profile → Option (List ℕ)
dir_of profile = resolved profiles profile.path

abbrev pub starts_of : List Profile → List (List ℕ)
starts_of ps = filter_map dir_of ps

abbrev pub dirs_of : List LineFile → Option (List ℕ) → List (List ℕ)
dirs_of files None = []
dirs_of files (Some dir) = stack_from files dir

abbrev pub stack_of : List LineFile → Profile → Stack
stack_of files profile = record { line = profile.line; dirs = dirs_of files (dir_of profile) }

-- the place of the first profile whose stack has more than 4,096 visits
abbrev pub first_long : List LineFile → List Profile → Option (List ℕ)
first_long files [] = None
first_long files (p ∷ ps) = if is_long (dirs_of files (dir_of p)) then Some (stack_place p.path) else first_long files ps

abbrev pub walk_with : List LineFile → List Profile → Walk
walk_with files ps = record { files = files; stacks = map (stack_of files) ps }

abbrev pub unless_at : Option (List ℕ) → Walk → Result Walk LoadFault
unless_at None walk = Ok walk
unless_at (Some place) walk = Err (Limit place most_visits)

abbrev pub stacked : List LineFile → List Profile → Result Walk LoadFault
stacked files ps = unless_at (first_long files ps) (walk_with files ps)

abbrev pub and_stacked : Result (List LineFile) LoadFault → List Profile → Result Walk LoadFault
and_stacked (Ok files) ps = stacked files ps
and_stacked (Err fault) ps = Err fault

-- the files are read by the profiles in line order, then their stacks are made: the walk, or the first refusal
unfoldable pub walking : Look → List Profile → Result Walk LoadFault
walking look ps = and_stacked (reading_lines look (starts_of ps)) ps

-- what a walk is over every tree: its stacks are those of its own `parent` files, and no file is too large
pub record IsWalk (ps : List Profile) (walk : Walk) : Type 0 where
  pub stacks : walk.stacks ≡ map (stack_of walk.files) ps
  pub short : first_long walk.files ps ≡ None
  pub small : are_small walk.files ≡ true

-- Why there is no walk: a fault of the tree comes with a count that rose, and a limit with one that stands; where the tree
-- tells its files it is the first refusal. Want of memory says nothing
abbrev pub WalkCause : Option FileMap → (before now : ℕ) → List Profile → LoadFault → Type 0
WalkCause told before now ps NoMemory = Unit {0}
WalkCause told before now ps (Tree path) = Rose before now
WalkCause told before now ps (NotARepository path) = ⊥
WalkCause told before now ps (Limit place number) = (now ≡ before) × IfSome told (λ files. walking (look_of files) ps ≡ Err (Limit place number))

-- the directories of a line's stack; none where the walk has no stack of that line
abbrev pub stack_at : List Stack → ℕ → Option Stack
stack_at stacks line = find (λ s. s.line == line) stacks

abbrev pub dirs_at : List Stack → ℕ → List (List ℕ)
dirs_at stacks line = option_map_or (λ (s : Stack). s.dirs) (stack_at stacks line) []
