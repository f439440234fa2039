-- A file, or a folder of files: what is read of it, in order, and what that is.
use Rattle.std.specs.Prelude.{ℕ, ◌==◌, Bool, false, not, ◌&&◌, List, [], ◌∷◌, filter, map, flat_map}
use Rattle.gv_base.specs.Paths.{has_plain_bytes}
use Rattle.gv_base.specs.declared.tree.Found.{Found}
use Rattle.gv_base.specs.declared.tree.Found.TheVariants.{File, Dir, Absent}
use Rattle.gv_reading.specs.Look.{Look}
use Rattle.gv_reading.specs.Paths.{within}
use Rattle.gv_reading.specs.Reading.{Step, read, list}
use Rattle.gv_reading.specs.declared.files.NamedFile.{NamedFile}

abbrev pub has_dot : List ℕ → Bool
has_dot [] = false
has_dot (b ∷ bs) = b == 46

-- names that begin with a dot, and those with bytes outside 0x21 to 0x7E, are passed over
abbrev pub counts : List ℕ → Bool
counts name = has_plain_bytes name && not (has_dot name)

abbrev pub folder_names : Look → List ℕ → List (List ℕ)
folder_names look path = filter counts (look.names path)

abbrev pub name_steps : List ℕ → List (List ℕ) → List Step
name_steps path names = map (λ name. read (within path name)) names

abbrev pub folder_steps : Look → List ℕ → Found → List Step
folder_steps look path (File bytes) = []
folder_steps look path Dir = list path ∷ name_steps path (folder_names look path)
folder_steps look path Absent = []

abbrev pub file_steps : Look → List ℕ → List Step
file_steps look path = read path ∷ folder_steps look path (look.found path)

abbrev pub plain_file : List ℕ → Found → List NamedFile
plain_file path (File bytes) = record { path = path; bytes = bytes } ∷ []
plain_file path Dir = []
plain_file path Absent = []

-- the files of a folder, in byte order of their names; subdirectories are passed over
abbrev pub folder_files : Look → List ℕ → List (List ℕ) → List NamedFile
folder_files look path names = flat_map (λ name. plain_file (within path name) (look.found (within path name))) names

abbrev pub files_as : Look → List ℕ → Found → List NamedFile
files_as look path (File bytes) = plain_file path (File bytes)
files_as look path Dir = folder_files look path (folder_names look path)
files_as look path Absent = []

abbrev pub files_at : Look → List ℕ → List NamedFile
files_at look path = files_as look path (look.found path)
