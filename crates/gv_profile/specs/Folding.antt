-- What a stack comes to (PMS chapter 5).
use Rattle.std.specs.Prelude.{ℕ, List, [], ◌++◌, Option, Some, None, fold, map}
use Rattle.std.specs.FinMap.{get, empty}
use Rattle.gv_base.specs.Order.{has_text}
use Rattle.gv_defaults.specs.Defaults.{vars_after}
use Rattle.gv_defaults.specs.Settings.{VarMap, words_of}
use Rattle.gv_facts.specs.declared.profile.Profile.{Profile}
use Rattle.gv_facts.specs.declared.value_lists.ValueList.{ValueList}
use Rattle.gv_facts.specs.Visible.{testing}
use Rattle.gv_profile.specs.declared.desc.DescLine.{DescLine}
use Rattle.gv_profile.specs.declared.files.DirFiles.{DirFiles}
use Rattle.gv_reading.specs.declared.files.NamedFile.{NamedFile}
use Rattle.gv_profile.specs.declared.folding.Folded.{Folded}
use Rattle.gv_profile.specs.MaskLines.{mask_lines, masks_of}
use Rattle.gv_profile.specs.Names.{accept_keywords, iuse_implicit, use_expand, use_expand_implicit, use_expand_unprefixed, use_expand_values}
use Rattle.gv_profile.specs.FlagRules.{dir_rules}
use Rattle.gv_profile.specs.Walking.{Look, line_walk, stack_of}

abbrev pub vars_with : VarMap → Option (List ℕ) → VarMap
vars_with vars None = vars
vars_with vars (Some bytes) = vars_after vars bytes

-- the variables, the lines on masks and the rules on flags, with one directory more
abbrev pub with_files : Folded → Option DirFiles → Folded
with_files folded None = folded
with_files folded (Some files) = record {
  vars = vars_with folded.vars files.defaults;
  lines = folded.lines ++ mask_lines files.package_mask;
  rules = folded.rules ++ dir_rules files;
}

abbrev pub with_dir : Look → Folded → List ℕ → Folded
with_dir look folded dir = with_files folded (look dir)

-- the lines of mask files more
abbrev pub with_masks : Folded → List NamedFile → Folded
with_masks folded files = record { vars = folded.vars; lines = folded.lines ++ mask_lines files; rules = folded.rules }

-- the repository's own masks come first
abbrev pub start : List NamedFile → Folded
start first = with_masks (record { vars = empty; lines = []; rules = [] }) first

abbrev pub value_list : VarMap → List ℕ → ValueList
value_list vars name = record { name = name; words = words_of (get vars (use_expand_values name)) }

-- whether it accepts its arch with `~`, and the values of the names in USE_EXPAND_IMPLICIT, which are those that effective flags rest on
abbrev pub profile_with : DescLine → Folded → Profile
profile_with line folded = record {
  line = line.number;
  arch = line.arch;
  path = line.path;
  status = line.status;
  testing = has_text (words_of (get folded.vars accept_keywords)) (testing line.arch);
  iuse_implicit = words_of (get folded.vars iuse_implicit);
  expand = words_of (get folded.vars use_expand);
  expand_implicit = words_of (get folded.vars use_expand_implicit);
  unprefixed = words_of (get folded.vars use_expand_unprefixed);
  values = map (value_list folded.vars) (words_of (get folded.vars use_expand_implicit));
  masks = masks_of folded.lines;
  rules = folded.rules;
}

-- the profile of a line of `profiles.desc`: a left fold over its stack
abbrev pub profile_of : Look → List NamedFile → DescLine → Profile
profile_of look first line = profile_with line (fold (with_dir look) (start first) (stack_of (line_walk look line)))
