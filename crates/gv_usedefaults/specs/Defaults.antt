-- The default of a flag of a package in a profile: forced, named in `package.use`, a value of a USE_EXPAND variable, in USE,
-- or on in IUSE and not taken away (PMS chapters 5 and 7).
use Rattle.std.specs.Prelude.{ℕ, ◌==◌, Bool, true, false, ◌&&◌, ◌||◌, if◌then◌else◌, List, [], ◌∷◌, Option, Some, None, fold, filter, map, flat_map, unwrap_or, codes}
use Rattle.std.specs.Char.{to_ascii_lowercase}
use Rattle.std.specs.FinMap.{empty, get, insert}
use Rattle.std.specs.Option.{option_map, option_map_or}
use Rattle.std.specs.Str.{byte, bytes_eq}
use Rattle.gv_base.specs.Order.{has_text, in_order}
use Rattle.gv_defaults.specs.Defaults.{vars_after}
use Rattle.gv_defaults.specs.Settings.{VarMap, words_of}
use Rattle.gv_defaults.specs.declared.vars.Setting.TheVariants.{Words}
use Rattle.gv_facts.specs.States.{state}
use Rattle.gv_facts.specs.Visible.{matches_pkg}
use Rattle.gv_facts.specs.declared.kinds.FlagState.{FlagState}
use Rattle.gv_facts.specs.declared.kinds.FlagState.TheVariants.{Absent, Off, On, Free}
use Rattle.gv_facts.specs.declared.kinds.Level.{Level}
use Rattle.gv_facts.specs.declared.pkg.Pkg.{Pkg}
use Rattle.gv_facts.specs.declared.profile.Profile.{Profile}
use Rattle.gv_facts.specs.declared.rules.Rule.{Rule}
use Rattle.gv_facts.specs.declared.value_lists.ValueList.{ValueList}
use Rattle.gv_profile.specs.FlagRules.{forces, rules_among}
use Rattle.gv_profile.specs.Lines.{file_lines}
use Rattle.gv_usedefaults.specs.declared.file_kinds.FileKind.{FileKind}
use Rattle.gv_usedefaults.specs.declared.file_kinds.FileKind.TheVariants as kinds
use Rattle.gv_usedefaults.specs.declared.file_kinds.LineFile.{LineFile}
use Rattle.gv_usedefaults.specs.declared.defaults.UseDefaults.{UseDefaults}
use Rattle.gv_usedefaults.specs.Stacks.{in_dir}

-- ---- what a stack of directories says

abbrev pub is_defaults : FileKind → Bool
is_defaults kinds.Defaults = true
is_defaults kind = false

abbrev pub is_use : FileKind → Bool
is_use kinds.Use = true
is_use kind = false

-- the variables, folded over the make.defaults of the directories
abbrev pub with_file : VarMap → LineFile → VarMap
with_file vars file = if is_defaults file.kind then vars_after vars file.bytes else vars

abbrev pub with_dir : List LineFile → VarMap → List ℕ → VarMap
with_dir files vars dir = fold with_file vars (filter (in_dir dir) files)

abbrev pub vars_over : List LineFile → VarMap → List (List ℕ) → VarMap
vars_over files vars dirs = fold (with_dir files) vars dirs

-- the words of `package.use`, as rules that force
abbrev pub file_words : LineFile → List Rule
file_words file = if is_use file.kind then rules_among (forces false true) (file_lines file.bytes) else []

abbrev pub dir_words : List LineFile → List ℕ → List Rule
dir_words files dir = flat_map file_words (filter (in_dir dir) files)

abbrev pub words_over : List LineFile → List (List ℕ) → List Rule
words_over files dirs = flat_map (dir_words files) dirs

-- the two variables
unfoldable pub use_name : List ℕ
use_name = codes "USE"

unfoldable pub expand_name : List ℕ
expand_name = codes "USE_EXPAND"

-- USE as if it were the IUSE flags of all packages before the first directory
abbrev pub all_iuse : List Pkg → List (List ℕ)
all_iuse pkgs = in_order (flat_map (λ p. p.iuse) pkgs)

abbrev pub use_of : List (List ℕ) → VarMap
use_of flags = insert empty use_name (Words flags)

abbrev pub use_in : VarMap → List (List ℕ)
use_in vars = words_of (get vars use_name)

abbrev pub value_list : VarMap → List ℕ → ValueList
value_list vars name = record { name = name; words = words_of (get vars name) }

abbrev pub expanded : VarMap → List ValueList
expanded vars = map (value_list vars) (words_of (get vars expand_name))

-- by the IUSE flags of all packages and the directories of a stack
abbrev pub defaults_over : List LineFile → (flags dirs : List (List ℕ)) → UseDefaults
defaults_over files flags dirs = record {
  on = use_in (vars_over files empty dirs);
  kept = use_in (vars_over files (use_of flags) dirs);
  expand = expanded (vars_over files empty dirs);
  rules = words_over files dirs;
}

-- ---- the default of a flag: the first that says something decides

-- the last word that names the flag in a line whose atom matches the package
abbrev pub names_it : Pkg → List ℕ → Rule → Bool
names_it p flag rule = bytes_eq rule.flag flag && option_map_or (λ a. matches_pkg a p) rule.atom true

abbrev pub behind_word : Pkg → List ℕ → Option Bool → Rule → Option Bool
behind_word p flag said rule = if names_it p flag rule then Some rule.on else said

abbrev pub last_word : Pkg → List Rule → List ℕ → Option Bool
last_word p rules flag = fold (behind_word p flag) None rules

-- what stands in the flag behind the name in small letters and `_`
abbrev pub word_behind : (name flag : List ℕ) → Option (List ℕ)
word_behind [] [] = None
word_behind [] (b ∷ rest) = if b == byte "_" then Some rest else None
word_behind (c ∷ name) [] = None
word_behind (c ∷ name) (b ∷ rest) = if b == to_ascii_lowercase c then word_behind name rest else None

-- whether the variable's value has it; none where the flag isn't the variable's, or its value has no word
abbrev pub has_words : List (List ℕ) → Bool
has_words [] = false
has_words (word ∷ words) = true

abbrev pub value_says : List ℕ → ValueList → Option Bool
value_says flag list = if has_words list.words then option_map (has_text list.words) (word_behind list.name flag) else None

-- on where one of the variables has it
abbrev pub either_says : Option Bool → Option Bool → Option Bool
either_says None said = said
either_says (Some on) None = Some on
either_says (Some on) (Some other) = Some (on || other)

abbrev pub values_say : List ValueList → List ℕ → Option Bool
values_say [] flag = None
values_say (list ∷ lists) flag = either_says (value_says flag list) (values_say lists flag)

-- in USE; or on in IUSE, and not taken away
abbrev pub is_usual : Pkg → UseDefaults → List ℕ → Bool
is_usual p d flag = has_text d.on flag || (has_text d.kept flag && has_text p.iuse_plus flag)

abbrev pub free_default : Pkg → UseDefaults → List ℕ → Bool
free_default p d flag = unwrap_or (last_word p d.rules flag) (unwrap_or (values_say d.expand flag) (is_usual p d flag))

abbrev pub by_state : FlagState → Bool → Bool
by_state On free = true
by_state Off free = false
by_state Absent free = false
by_state Free free = free

abbrev pub default_of : Pkg → Profile → Level → UseDefaults → List ℕ → Bool
default_of p profile level d flag = by_state (state p profile level flag) (free_default p d flag)
