-- The stack of a directory by the `parent` files that were read (PMS chapter 5).
use Rattle.std.specs.Prelude.{ℕ, ◌-◌, nat_lt, Bool, true, false, if◌then◌else◌, List, [], Option, Some, None, filter, flat_map, length}
use Rattle.std.specs.Str.{bytes_eq}
use Rattle.gv_profile.specs.Stacks.{stack_below}
use Rattle.gv_profile.specs.Walking.{most_visits}
use Rattle.gv_usedefaults.specs.declared.file_kinds.FileKind.{FileKind}
use Rattle.gv_usedefaults.specs.declared.file_kinds.FileKind.TheVariants.{Parent}
use Rattle.gv_usedefaults.specs.declared.file_kinds.LineFile.{LineFile}
use Rattle.gv_usedefaults.specs.LineFiles.{paths_in}

abbrev pub is_parent : FileKind → Bool
is_parent Parent = true
is_parent kind = false

abbrev pub in_dir : List ℕ → LineFile → Bool
in_dir dir file = bytes_eq dir file.dir

-- the paths of a directory's parents, those that leave the root or are the root left out
abbrev pub file_parents : LineFile → List (List ℕ)
file_parents file = if is_parent file.kind then paths_in file.dir file.bytes else []

abbrev pub parents_in : List LineFile → List ℕ → List (List ℕ)
parents_in files dir = flat_map file_parents (filter (in_dir dir) files)

-- from a directory on, behind those that led to it; at most 4,096 lead on
unfoldable pub stack_way : (List ℕ → List (List ℕ)) → (way : List (List ℕ)) → List ℕ → List (List ℕ)
stack_way parents way dir = stack_below (most_visits - length way) parents way dir

abbrev pub stack_from : List LineFile → List ℕ → List (List ℕ)
stack_from files dir = stack_way (parents_in files) [] dir

-- each directory is in the stack as often as it is visited
abbrev pub is_long : List (List ℕ) → Bool
is_long stack = nat_lt most_visits (length stack)

abbrev pub unless_long : List (List ℕ) → Option (List (List ℕ))
unless_long stack = if is_long stack then None else Some stack
