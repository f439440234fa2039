-- The files of profile directories whose lines are looked at one by one, with the defaults and the parents, and the order
-- in which they are read.
use Rattle.std.specs.Prelude.{◌≡◌, ℕ, nat_le, Bool, true, false, if◌then◌else◌, List, [], ◌∷◌, ◌++◌, Option, IfSome, Result, Ok, Err, map, flat_map, filter_map, zero, suc, length, codes}
use Rattle.std.specs.List.{list_all}
use Rattle.gv_base.specs.Causes.{Rose}
use Rattle.gv_base.specs.FileMap.{FileMap}
use Rattle.gv_base.specs.Order.{has_text}
use Rattle.gv_base.specs.Outside.{most_file_bytes}
use Rattle.gv_profile.specs.Names.{profiles}
use Rattle.gv_profile.specs.ParentFiles.{parent_lines}
use Rattle.gv_reading.specs.Paths.{within}
use Rattle.gv_reading.specs.declared.files.NamedFile.{NamedFile}
use Rattle.gv_reading.specs.declared.faults.LoadFault.{LoadFault}
use Rattle.gv_reading.specs.declared.faults.LoadFault.TheVariants.{Tree, NotARepository, Limit, NoMemory}
use Rattle.gv_usedefaults.specs.declared.file_kinds.FileKind.{FileKind}
use Rattle.gv_usedefaults.specs.declared.file_kinds.FileKind.TheVariants.{Parent, Defaults, Use, Mask, UseMask, UseForce, StableMask, StableForce}
use Rattle.gv_usedefaults.specs.declared.file_kinds.LineFile.{LineFile}
use Rattle.gv_reading.specs.NamedFiles.{file_steps, files_at, plain_file}
use Rattle.gv_reading.specs.Look.{Look, look_of}
use Rattle.gv_load.specs.Paths.{mask_path}
use Rattle.gv_reading.specs.Reader.{nothing}
use Rattle.gv_reading.specs.Reading.{Out, Step, passed, read}

-- the names of the files
unfoldable pub kind_name : FileKind → List ℕ
kind_name Parent = codes "parent"
kind_name Defaults = codes "make.defaults"
kind_name Use = codes "package.use"
kind_name Mask = codes "package.mask"
kind_name UseMask = codes "package.use.mask"
kind_name UseForce = codes "package.use.force"
kind_name StableMask = codes "package.use.stable.mask"
kind_name StableForce = codes "package.use.stable.force"

-- behind `parent`, in the order in which they are read
abbrev pub kinds_behind : List FileKind
kinds_behind = Defaults ∷ Use ∷ Mask ∷ UseMask ∷ UseForce ∷ StableMask ∷ StableForce ∷ []

-- the others may be folders of files
abbrev pub is_plain : FileKind → Bool
is_plain Parent = true
is_plain Defaults = true
is_plain kind = false

abbrev pub line_file : List ℕ → FileKind → NamedFile → LineFile
line_file dir kind file = record { dir = dir; kind = kind; path = file.path; bytes = file.bytes }

-- one kind of a directory: what is read of it, and what that is
abbrev pub path_steps : Look → (plain : Bool) → List ℕ → List Step
path_steps look plain path = if plain then read path ∷ [] else file_steps look path

abbrev pub path_files : Look → (plain : Bool) → List ℕ → List NamedFile
path_files look plain path = if plain then plain_file path (look.found path) else files_at look path

abbrev pub kind_steps : Look → List ℕ → FileKind → List Step
kind_steps look dir kind = path_steps look (is_plain kind) (within dir (kind_name kind))

abbrev pub kind_files : Look → List ℕ → FileKind → List LineFile
kind_files look dir kind = map (line_file dir kind) (path_files look (is_plain kind) (within dir (kind_name kind)))

-- these kinds of it, in order
abbrev pub kinds_steps : Look → List ℕ → List FileKind → List Step
kinds_steps look dir kinds = flat_map (kind_steps look dir) kinds

abbrev pub kinds_files : Look → List ℕ → List FileKind → List LineFile
kinds_files look dir kinds = flat_map (kind_files look dir) kinds

-- a directory: its parents first
abbrev pub dir_line_steps : Look → List ℕ → List Step
dir_line_steps look dir = kind_steps look dir Parent ++ kinds_steps look dir kinds_behind

abbrev pub dir_line_files : Look → List ℕ → List LineFile
dir_line_files look dir = kind_files look dir Parent ++ kinds_files look dir kinds_behind

-- the paths that the bytes of a `parent` name from a directory
abbrev pub paths_in : List ℕ → List ℕ → List (List ℕ)
paths_in dir bytes = filter_map (λ p. p.path) (parent_lines dir bytes)

abbrev pub parents_by : List ℕ → List NamedFile → List (List ℕ)
parents_by dir files = flat_map (λ f. paths_in dir f.bytes) files

-- those of a directory
abbrev pub parents_at : Look → List ℕ → List (List ℕ)
parents_at look dir = parents_by dir (path_files look true (within dir (kind_name Parent)))

-- what is still gone to, each directory once: one that was gone to before is passed over, and the parents of any other
-- come before what else is ahead
abbrev pub to_come : ℕ → (List ℕ → List (List ℕ)) → (before ahead : List (List ℕ)) → List (List ℕ)
to_come zero parents before ahead = []
to_come (suc turns) parents before [] = []
to_come (suc turns) parents before (dir ∷ ahead) =
    if has_text before dir then to_come turns parents before ahead
    else dir ∷ to_come turns parents (before ++ dir ∷ []) (parents dir ++ ahead)

-- whether nothing is ahead any more behind so many turns
abbrev pub comes_to_end : ℕ → (List ℕ → List (List ℕ)) → (before ahead : List (List ℕ)) → Bool
comes_to_end zero parents before [] = true
comes_to_end zero parents before (dir ∷ ahead) = false
comes_to_end (suc turns) parents before [] = true
comes_to_end (suc turns) parents before (dir ∷ ahead) =
    if has_text before dir then comes_to_end turns parents before ahead
    else comes_to_end turns parents (before ++ dir ∷ []) (parents dir ++ ahead)

-- more turns than a number of 64 bits counts are never taken
unfoldable pub most_turns : ℕ
most_turns = 18446744073709551615

-- from these directories on, depth first
abbrev pub dirs_from : Look → List (List ℕ) → List (List ℕ)
dirs_from look starts = to_come most_turns (parents_at look) [] starts

abbrev pub are_all : Look → List (List ℕ) → Bool
are_all look starts = comes_to_end most_turns (parents_at look) [] starts

abbrev pub dirs_steps : Look → List (List ℕ) → List Step
dirs_steps look dirs = flat_map (dir_line_steps look) dirs

abbrev pub dirs_files : Look → List (List ℕ) → List LineFile
dirs_files look dirs = flat_map (dir_line_files look) dirs

-- the repository's own masks, and then these directories
abbrev pub line_steps : Look → List (List ℕ) → List Step
line_steps look starts = file_steps look mask_path ++ dirs_steps look (dirs_from look starts)

abbrev pub own_files : Look → List LineFile
own_files look = map (line_file profiles Mask) (files_at look mask_path)

abbrev pub line_files : Look → List (List ℕ) → List LineFile
line_files look starts = own_files look ++ dirs_files look (dirs_from look starts)

-- each file has at most as many bytes as a file may have
abbrev pub are_small : List LineFile → Bool
are_small files = list_all (λ f. nat_le (length f.bytes) most_file_bytes) files

-- what reading comes to: the files, or the first refusal
abbrev pub if_lines : Out → List LineFile → Result (List LineFile) LoadFault
if_lines (Ok seen) files = Ok files
if_lines (Err fault) files = Err fault

unfoldable pub reading_lines : Look → List (List ℕ) → Result (List LineFile) LoadFault
reading_lines look starts = if_lines (passed look nothing (line_steps look starts)) (line_files look starts)

-- Why they weren't read: a fault of the tree comes with a count that rose, and a limit with one that stands; where the
-- tree tells its files the limit is the first refusal. No step asks that a file be there. Want of memory says nothing
abbrev pub LinesCause : Option FileMap → (before now : ℕ) → List (List ℕ) → LoadFault → Type 0
LinesCause told before now starts NoMemory = Unit {0}
LinesCause told before now starts (Tree path) = Rose before now
LinesCause told before now starts (NotARepository path) = ⊥
LinesCause told before now starts (Limit place number) = (now ≡ before) × IfSome told (λ files. reading_lines (look_of files) starts ≡ Err (Limit place number))
