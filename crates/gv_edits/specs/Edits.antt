-- Edits of a map of files: a put sets one path, a cut removes one.
use Rattle.std.specs.Prelude.{ℕ, List, fold, Option}
use Rattle.std.specs.Option.{option_map}
use Rattle.std.specs.FinMap.{insert, remove}
use Rattle.gv_base.specs.FileMap.{FileMap}
use Rattle.gv_edits.specs.declared.edit.Edit.{Edit}
use Rattle.gv_edits.specs.declared.edit.Edit.TheVariants.{Put, Cut}

abbrev pub edit_path : Edit → List ℕ
edit_path (Put path bytes) = path
edit_path (Cut path) = path

abbrev pub after_edit : FileMap → Edit → FileMap
after_edit files (Put path bytes) = insert files path bytes
after_edit files (Cut path) = remove files path

-- the files after the edits, in order
abbrev pub edited : FileMap → List Edit → FileMap
edited files edits = fold after_edit files edits

-- the files of a tree with the edits, where they are told
abbrev pub edited_told : Option FileMap → List Edit → Option FileMap
edited_told told edits = option_map (λ files. edited files edits) told
