-- The masks of a stack (PMS chapter 5): lines of `package.mask`, folded.
use Rattle.std.specs.Prelude.{ℕ, ◌==◌, Bool, true, false, not, ◌&&◌, if◌then◌else◌, List, [], ◌∷◌, ◌++◌, Option, Some, None, fold, filter, filter_map, flat_map}
use Rattle.std.specs.Option.{option_and_then, option_map}
use Rattle.std.specs.Str.{byte, bytes_eq}
use Rattle.gv_atom.specs.declared.atom.Atom.{Atom}
use Rattle.gv_atom.specs.declared.items.UseItem.{UseItem}
use Rattle.gv_atom.specs.Reading.{read_atom}
use Rattle.gv_atom.specs.Items.{is_blocker}
use Rattle.gv_facts.specs.declared.masks.Mask.{Mask}
use Rattle.gv_reading.specs.declared.files.NamedFile.{NamedFile}
use Rattle.gv_profile.specs.declared.mask_lines.MaskLine.{MaskLine}
use Rattle.gv_profile.specs.declared.mask_lines.MaskLine.TheVariants.{Adds, Takes}
use Rattle.gv_profile.specs.Lines.{line_words, file_lines}

abbrev pub asks_nothing : List UseItem → Bool
asks_nothing [] = true
asks_nothing (item ∷ items) = false

abbrev pub plain : Atom → Option Atom
plain atom = if not (is_blocker atom.block) && asks_nothing atom.items then Some atom else None

-- an atom of a file under `profiles` blocks nothing and asks nothing of flags
unfoldable pub file_atom : List ℕ → Option Atom
file_atom bytes = option_and_then plain (read_atom bytes)

abbrev pub masking : List ℕ → Atom → MaskLine
masking text atom = Adds (record { text = text; atom = atom })

abbrev pub adding : List ℕ → Option MaskLine
adding text = option_map (masking text) (file_atom text)

-- an atom, or a hyphen and any text
abbrev pub mask_of : List ℕ → Option MaskLine
mask_of [] = None
mask_of (b ∷ bs) = if b == byte "-" then Some (Takes bs) else adding (b ∷ bs)

-- a good line has one such word
abbrev pub mask_in : List (List ℕ) → Option MaskLine
mask_in [] = None
mask_in (word ∷ []) = mask_of word
mask_in (word ∷ next ∷ words) = None

abbrev pub masks_among : List (List ℕ) → List MaskLine
masks_among lines = filter_map (λ line. mask_in (line_words line)) lines

abbrev pub mask_lines : List NamedFile → List MaskLine
mask_lines files = flat_map (λ f. masks_among (file_lines f.bytes)) files

-- an atom is added at the end, and `-text` takes every earlier one with this text away
abbrev pub mask_after : List Mask → MaskLine → List Mask
mask_after masks (Adds mask) = masks ++ mask ∷ []
mask_after masks (Takes text) = filter (λ m. not (bytes_eq m.text text)) masks

abbrev pub masks_of : List MaskLine → List Mask
masks_of lines = fold mask_after [] lines
