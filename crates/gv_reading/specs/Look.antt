-- What can be seen of a tree: what stands at a path, and which names lie below it.
use Rattle.std.specs.Prelude.{ℕ, List, [], Option, Some, None, unwrap_or}
use Rattle.gv_base.specs.FileMap.{FileMap}
use Rattle.gv_base.specs.Outside.{found_at}
use Rattle.gv_base.specs.Listing.{names_below}
use Rattle.gv_base.specs.declared.tree.Found.{Found}
use Rattle.gv_base.specs.declared.tree.Found.TheVariants.{File, Dir, Absent}

pub record Look : Type 0 where
  pub found : List ℕ → Found
  pub names : List ℕ → List (List ℕ)

-- of a map of files
abbrev pub look_of : FileMap → Look
look_of files = record { found = found_at files; names = names_below files }

-- the bytes of a file; a folder counts as absent
abbrev pub bytes_in : Found → Option (List ℕ)
bytes_in (File bytes) = Some bytes
bytes_in Dir = None
bytes_in Absent = None

abbrev pub bytes_at : Look → List ℕ → Option (List ℕ)
bytes_at look path = bytes_in (look.found path)

-- those of a file that is needed
abbrev pub text_at : Look → List ℕ → List ℕ
text_at look path = unwrap_or (bytes_at look path) []
