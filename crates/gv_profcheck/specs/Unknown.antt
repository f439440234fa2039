-- Lines of profile files whose atom is of no package.
use Rattle.std.specs.Prelude.{ℕ, ◌==◌, Bool, true, false, not, if◌then◌else◌, List, [], ◌∷◌, Option, Some, None, filter_map, flat_map}
use Rattle.std.specs.List.{list_any}
use Rattle.std.specs.Option.{option_and_then}
use Rattle.std.specs.Str.{byte}
use Rattle.gv_atom.specs.Grammar.{atom_text}
use Rattle.gv_atom.specs.declared.atom.Atom.{Atom}
use Rattle.gv_facts.specs.Places.{is_pkg_of}
use Rattle.gv_facts.specs.declared.pkg.Pkg.{Pkg}
use Rattle.gv_profile.specs.FlagLines.{are_flag_words}
use Rattle.gv_profile.specs.Lines.{line_words, numbered_lines}
use Rattle.gv_profile.specs.MaskLines.{file_atom}
use Rattle.gv_usedefaults.specs.declared.file_kinds.FileKind.{FileKind}
use Rattle.gv_usedefaults.specs.declared.file_kinds.FileKind.TheVariants.{Parent, Defaults, Mask}
use Rattle.gv_usedefaults.specs.declared.file_kinds.LineFile.{LineFile}
use Rattle.gv_report.specs.declared.keyword.Keyword.TheVariants.{UnknownProfilePackage}
use Rattle.gv_report.specs.declared.report.Report.{Report}
use Rattle.gv_report.specs.declared.report.Subject.TheVariants.{Place}

-- the atom of a good line of `package.mask`: its one word, unless that takes an earlier one away
abbrev pub mask_atom : List ℕ → Option Atom
mask_atom [] = None
mask_atom (b ∷ bs) = if b == byte "-" then None else file_atom (b ∷ bs)

abbrev pub in_mask : List (List ℕ) → Option Atom
in_mask [] = None
in_mask (word ∷ []) = mask_atom word
in_mask (word ∷ next ∷ words) = None

-- that of a good line of `package.use` and its like: an atom, then one or more flags
abbrev pub in_flags : List (List ℕ) → Option Atom
in_flags [] = None
in_flags (text ∷ words) = if are_flag_words words then file_atom text else None

-- by the file in which the line stands
abbrev pub atom_in : FileKind → List (List ℕ) → Option Atom
atom_in Parent words = None
atom_in Defaults words = None
atom_in Mask words = in_mask words
atom_in kind words = in_flags words

abbrev pub is_unknown : List Pkg → Atom → Bool
is_unknown pkgs a = not (list_any (is_pkg_of a.category a.name) pkgs)

abbrev pub unknown_at : (path : List ℕ) → (line : ℕ) → Atom → Report
unknown_at path line a = record {
  subject = Place path line;
  keyword = UnknownProfilePackage;
  class = None;
  context = None;
  witness = None;
  detail = Some (atom_text a);
}

abbrev pub if_unknown : List Pkg → (path : List ℕ) → (line : ℕ) → Option Atom → Option Report
if_unknown pkgs path line None = None
if_unknown pkgs path line (Some a) = if is_unknown pkgs a then Some (unknown_at path line a) else None

abbrev pub line_report : List Pkg → LineFile → ℕ × List ℕ → Option Report
line_report pkgs file line = if_unknown pkgs file.path line.0 (atom_in file.kind (line_words line.1))

abbrev pub file_reports : List Pkg → LineFile → List Report
file_reports pkgs file = filter_map (line_report pkgs file) (numbered_lines file.bytes)

-- of all files that were read
abbrev pub unknown_reports : List Pkg → List LineFile → List Report
unknown_reports pkgs files = flat_map (file_reports pkgs) files
