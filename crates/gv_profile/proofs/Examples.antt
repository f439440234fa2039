-- Lists of profiles, stacks, rules, masks and notes of a few directories, by their computed values.
use Rattle.std.proofs.Common.{◌≡◌, ℕ, ◌+◌, List, [], ◌∷◌, ◌++◌, Bool, true, false, Some, None, refl, ap, ◌∙◌}
use Rattle.std.specs.Prelude.{Option, map, codes, if◌then◌else◌, nat_eq}
use Rattle.std.specs.Option.{is_some}
use Rattle.std.specs.Str.{bytes_eq}
use Rattle.std.specs.FinMap.{get}
use Rattle.gv_base.specs.Order.{has_text}
use Rattle.gv_defaults.specs.declared.vars.Setting.{Setting}
use Rattle.gv_defaults.specs.declared.vars.Setting.TheVariants.{Words, Plain}
use Rattle.gv_defaults.specs.Settings.{VarMap, words_of}
use Rattle.gv_facts.specs.declared.kinds.Status.TheVariants.{Stable, Dev, Exp}
use Rattle.gv_facts.specs.declared.rules.Effect.{Effect}
use Rattle.gv_facts.specs.declared.rules.Effect.TheVariants.{Force, Mask}
use Rattle.gv_facts.specs.declared.rules.Rule.{Rule}
use Rattle.gv_facts.specs.declared.value_lists.ValueList.{ValueList}
use Rattle.gv_facts.specs.Visible.{testing}
use Rattle.gv_profile.specs.declared.desc.DescLine.{DescLine}
use Rattle.gv_profile.specs.declared.faults.ProfileFault.TheVariants.{Cycle, MissingParent, MissingProfile, BadEapi, TooMany}
use Rattle.gv_profile.specs.declared.files.DirFiles.{DirFiles}
use Rattle.gv_reading.specs.declared.files.NamedFile.{NamedFile}
use Rattle.gv_profile.specs.declared.notes.PlaceNote.{PlaceNote}
use Rattle.gv_profile.specs.Desc.{desc_read}
use Rattle.gv_profile.specs.BadLines.{dir_notes}
use Rattle.gv_profile.specs.Eapi.{eapi_in}
use Rattle.gv_profile.specs.MaskLines.{file_atom, masks_of, mask_lines}
use Rattle.gv_profile.specs.Folding.{profile_with, value_list}
use Rattle.gv_profile.specs.Names.{accept_keywords, desc_path, detail_of, eapi_path, iuse_implicit, parent_path, profiles, use_expand, use_expand_implicit, use_expand_unprefixed, use_expand_values}
use Rattle.gv_profile.specs.FlagRules.{dir_rules}
use Rattle.gv_profile.specs.Walking.{Look, walk_below, line_walk, stack_of, stack_fault}

abbrev empty_dir : DirFiles
empty_dir = record {
  eapi = None;
  parent = None;
  defaults = None;
  use_mask = [];
  use_force = [];
  use_stable_mask = [];
  use_stable_force = [];
  package_mask = [];
  package_use_mask = [];
  package_use_force = [];
  package_use_stable_mask = [];
  package_use_stable_force = [];
}

abbrev file : List ℕ → List NamedFile
file bytes = record { path = codes "f"; bytes = bytes } ∷ []

abbrev line : List ℕ → DescLine
line path = record { number = 1; arch = codes "amd64"; path = path; status = Stable }

-- a line feed behind each line
abbrev lines : List (List ℕ) → List ℕ
lines [] = []
lines (l ∷ ls) = l ++ 10 ∷ lines ls

-- ---- a directory that is reached twice, and a parent that leads back

abbrev base : DirFiles
base = record empty_dir { eapi = Some (codes "8"); use_mask = file (codes "a") }

abbrev undo : Option (List ℕ) → DirFiles
undo parent = record empty_dir { parent = parent; use_mask = file (codes "-a") }

abbrev top : DirFiles
top = record empty_dir { parent = Some (lines (codes "../base" ∷ codes "../undo # again" ∷ codes "../base/" ∷ [])) }

abbrev three : Option (List ℕ) → Look
three parent path =
    if bytes_eq path (codes "profiles/base") then Some base
    else (if bytes_eq path (codes "profiles/undo") then Some (undo parent) else (if bytes_eq path (codes "profiles/top") then Some top else None))

twice : stack_of (line_walk (three None) (line (codes "top"))) ≡ codes "profiles/base" ∷ codes "profiles/undo" ∷ codes "profiles/base" ∷ codes "profiles/top" ∷ []
unfolding walk_below profiles
twice = refl

no_fault : stack_fault (three None) (line (codes "top")) ≡ None
unfolding walk_below profiles
no_fault = refl

cycle : stack_fault (three (Some (codes "../top"))) (line (codes "top")) ≡ Some (Cycle (codes "profiles/undo/parent") 1)
unfolding walk_below profiles parent_path
cycle = refl

missing : stack_fault (three (Some (lines ([] ∷ codes "../none" ∷ [])))) (line (codes "top")) ≡ Some (MissingParent (codes "profiles/undo/parent") 2)
unfolding walk_below profiles parent_path
missing = refl

out_of_the_root : stack_fault (three (Some (codes "../.."))) (line (codes "top")) ≡ Some (MissingParent (codes "profiles/undo/parent") 1)
unfolding walk_below profiles parent_path
out_of_the_root = refl

bad_eapi : stack_fault (λ path. Some (record empty_dir { eapi = Some (codes "9") })) (line (codes "top")) ≡ Some (BadEapi (codes "profiles/top/eapi"))
unfolding walk_below profiles eapi_path
bad_eapi = refl

nowhere : (stack_fault (three None) (line (codes "other")) ≡ Some (MissingProfile 1)) × (stack_fault (three None) (line (codes "../..")) ≡ Some (MissingProfile 1))
unfolding walk_below profiles
nowhere = (refl, refl)

-- ---- directories that name the next one twice, by the last byte of their paths

abbrev last : List ℕ → ℕ
last [] = 0
last (b ∷ []) = b
last (b ∷ c ∷ bs) = last (c ∷ bs)

abbrev twin : ℕ → DirFiles
twin n = record empty_dir { parent = Some (lines ((codes "../" ++ n ∷ []) ∷ (codes "../" ++ n ∷ []) ∷ [])) }

abbrev chain : ℕ → Look
chain end path = if nat_eq (last path) end then Some empty_dir else Some (twin (last path + 1))

-- twelve of them are visited 4,095 times, thirteen too often
twelve : stack_fault (chain 76) (line (65 ∷ [])) ≡ None
unfolding walk_below profiles
twelve = refl

thirteen : stack_fault (chain 77) (line (65 ∷ [])) ≡ Some TooMany
unfolding walk_below profiles
thirteen = refl

-- ---- small files

eapis : (eapi_in (codes "8 9") ≡ Some 8) × (eapi_in (codes "08") ≡ None) × (eapi_in (codes "8x") ≡ None) × (eapi_in (codes " # 7") ≡ Some 0) × (eapi_in (10 ∷ codes "5") ≡ Some 5)
eapis = (refl, refl, refl, refl, refl)

-- a repeat of a good line doesn't count and isn't bad; a repeat of a bad one alone is no repeat
desc : desc_read (lines (codes "a b stabl" ∷ codes "a b dev # x" ∷ [] ∷ codes "a b what" ∷ codes "a b/ exp" ∷ []))
    ≡ record {
      lines = record { number = 2; arch = codes "a"; path = codes "b"; status = Dev } ∷ record { number = 5; arch = codes "a"; path = codes "b/"; status = Exp } ∷ [];
      notes = record { path = codes "profiles/profiles.desc"; line = 1; detail = codes "bad line" } ∷ [];
    }
unfolding desc_path detail_of
desc = refl

-- `-text` compares texts and takes what stands before it alone
masked : map (λ m. m.text) (masks_of (mask_lines (file (lines (codes "=x/y-1" ∷ codes "x/z" ∷ codes "-x/y" ∷ codes "-x/z" ∷ codes "x/z" ∷ codes "-" ∷ codes "!x/y" ∷ codes "x/y[f]" ∷ []))))) ≡ codes "=x/y-1" ∷ codes "x/z" ∷ []
unfolding file_atom
masked = refl

-- plain, stable, package; a bad word makes the whole line bad, and stable files wait for EAPI 5
abbrev ruled : List ℕ → DirFiles
ruled eapi = record empty_dir {
  eapi = Some eapi;
  use_force = file (lines (codes "b" ∷ codes "-c" ∷ codes "d e" ∷ codes "-" ∷ []));
  use_stable_mask = file (codes "s");
  package_use_mask = file (lines (codes "x/y f -g" ∷ codes "x/y f _" ∷ codes "x/y" ∷ codes "y f" ∷ []));
}

rules : (map (λ r. r.flag) (dir_rules (ruled (codes "5"))) ≡ codes "b" ∷ codes "c" ∷ codes "s" ∷ codes "f" ∷ codes "g" ∷ [])
    × (map (λ r. r.on) (dir_rules (ruled (codes "5"))) ≡ true ∷ false ∷ true ∷ true ∷ false ∷ [])
    × (map (λ r. is_some r.atom) (dir_rules (ruled (codes "5"))) ≡ false ∷ false ∷ false ∷ true ∷ true ∷ [])
    × (map (λ r. r.flag) (dir_rules (ruled (codes "4"))) ≡ codes "b" ∷ codes "c" ∷ codes "f" ∷ codes "g" ∷ [])
unfolding file_atom
rules = (refl, refl, refl, refl)

-- each of the eight files: the flag, what is done to it, whether under stable restrictions alone, and whether for the packages of an atom alone
abbrev eight : DirFiles
eight = record empty_dir {
  eapi = Some (codes "8");
  use_mask = file (codes "um");
  use_force = file (codes "uf");
  use_stable_mask = file (codes "usm");
  use_stable_force = file (codes "usf");
  package_use_mask = file (codes "x/y pm");
  package_use_force = file (codes "x/y pf");
  package_use_stable_mask = file (codes "x/y psm");
  package_use_stable_force = file (codes "x/y psf");
}

abbrev shape : Rule → List ℕ × (Effect × (Bool × Bool))
shape r = (r.flag, (r.effect, (r.stable, is_some r.atom)))

each_file : map shape (dir_rules eight) ≡
    (codes "um", (Mask, (false, false))) ∷ (codes "uf", (Force, (false, false))) ∷ (codes "usm", (Mask, (true, false))) ∷ (codes "usf", (Force, (true, false)))
    ∷ (codes "pm", (Mask, (false, true))) ∷ (codes "pf", (Force, (false, true))) ∷ (codes "psm", (Mask, (true, true))) ∷ (codes "psf", (Force, (true, true))) ∷ []
unfolding file_atom
each_file = refl

-- each of the variables that a profile uses
variables : (vars : VarMap) → get vars (codes "ACCEPT_KEYWORDS") ≡ Some (Words (codes "~amd64" ∷ [])) → get vars (codes "IUSE_IMPLICIT") ≡ Some (Words (codes "i" ∷ []))
    → get vars (codes "USE_EXPAND") ≡ Some (Words (codes "E" ∷ [])) → get vars (codes "USE_EXPAND_IMPLICIT") ≡ Some (Words (codes "M" ∷ []))
    → get vars (codes "USE_EXPAND_UNPREFIXED") ≡ Some (Words (codes "U" ∷ [])) → get vars (codes "USE_EXPAND_VALUES_M") ≡ Some (Plain (codes "v w"))
    → profile_with (line (codes "top")) (record { vars = vars; lines = []; rules = [] }) ≡ record {
      line = 1;
      arch = codes "amd64";
      path = codes "top";
      status = Stable;
      testing = true;
      iuse_implicit = codes "i" ∷ [];
      expand = codes "E" ∷ [];
      expand_implicit = codes "M" ∷ [];
      unprefixed = codes "U" ∷ [];
      values = record { name = codes "M"; words = codes "v" ∷ codes "w" ∷ [] } ∷ [];
      masks = [];
      rules = [];
    }
unfolding accept_keywords iuse_implicit use_expand use_expand_implicit use_expand_unprefixed use_expand_values
variables vars accepts implicit expand expand_implicit unprefixed values = λ i. record {
  line = 1;
  arch = codes "amd64";
  path = codes "top";
  status = Stable;
  testing = has_text (words_of (accepts i)) (testing (codes "amd64"));
  iuse_implicit = words_of (implicit i);
  expand = words_of (expand i);
  expand_implicit = words_of (expand_implicit i);
  unprefixed = words_of (unprefixed i);
  values = values_are i;
  masks = [];
  rules = [];
}
  where
    values_are : map (value_list vars) (words_of (get vars use_expand_implicit)) ≡ record { name = codes "M"; words = codes "v" ∷ codes "w" ∷ [] } ∷ []
    values_are = ap (λ (o : Option Setting). map (value_list vars) (words_of o)) expand_implicit ∙ ap (λ (o : Option Setting). let v : ValueList = record { name = codes "M"; words = words_of o } in v ∷ []) values

abbrev noted : List PlaceNote
noted = dir_notes (codes "d") (record (ruled (codes "4")) { parent = Some (lines (codes "../a" ∷ codes "r:b" ∷ [])) })

notes : (map (λ n. n.line) noted ≡ 2 ∷ 3 ∷ 4 ∷ 2 ∷ 3 ∷ 4 ∷ [])
    × (map (λ n. n.detail) noted ≡ codes "bad line" ∷ codes "bad flag" ∷ codes "bad flag" ∷ codes "bad flag" ∷ codes "bad flag" ∷ codes "bad atom" ∷ [])
unfolding file_atom detail_of
notes = (refl, refl)
