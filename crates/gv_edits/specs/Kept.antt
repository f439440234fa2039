-- Words of private contracts: what is kept of edits.
-- `Edits` keeps two maps: the files that were put and not cut since (`put_files`), and the paths that were cut and not
-- put since (`cut_paths`). Whether a put or a cut lies below a path is one look-up in a map.
use Rattle.std.specs.Prelude.{ℕ, List, [], Bool, ◌&&◌, nat_le, length, fold, Option, Some, None}
use Rattle.std.specs.List.{list_all}
use Rattle.std.specs.FinMap.{empty, get, insert, remove}
use Rattle.gv_base.specs.FileMap.{FileMap}
use Rattle.gv_edits.specs.declared.edit.Edit.{Edit}
use Rattle.gv_edits.specs.declared.edit.Edit.TheVariants.{Put, Cut}
use Rattle.gv_edits.specs.Edits.{edited}

-- the files that were put and not cut since
abbrev pub put_files : List Edit → FileMap
put_files edits = edited empty edits

abbrev pub after_cut : FileMap → Edit → FileMap
after_cut cuts (Put path bytes) = remove cuts path
after_cut cuts (Cut path) = insert cuts path []

-- the paths that were cut and not put since, each with no bytes
abbrev pub cut_paths : List Edit → FileMap
cut_paths edits = fold after_cut empty edits

-- the edit's path and bytes are as short as a session allows
abbrev pub is_short : Edit → Bool
is_short (Put path bytes) = nat_le (length path) 4096 && nat_le (length bytes) 16777216
is_short (Cut path) = nat_le (length path) 4096

abbrev pub are_short : List Edit → Bool
are_short edits = list_all is_short edits

-- the edit of a path behind which these files are put and not cut since
abbrev pub edit_with : List ℕ → Option (List ℕ) → Edit
edit_with path (Some bytes) = Put path bytes
edit_with path None = Cut path

abbrev pub edit_of : List ℕ → FileMap → Edit
edit_of path puts = edit_with path (get puts path)
