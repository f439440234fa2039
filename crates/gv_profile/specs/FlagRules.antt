-- The rules on flags of a profile directory (PMS chapter 5).
use Rattle.std.specs.Prelude.{ℕ, Bool, true, false, not, if◌then◌else◌, List, [], ◌++◌, Option, map, flat_map}
use Rattle.gv_atom.specs.declared.atom.Atom.{Atom}
use Rattle.gv_facts.specs.declared.rules.Rule.{Rule}
use Rattle.gv_facts.specs.declared.rules.Effect.TheVariants.{Force, Mask}
use Rattle.gv_profile.specs.declared.files.DirFiles.{DirFiles}
use Rattle.gv_reading.specs.declared.files.NamedFile.{NamedFile}
use Rattle.gv_profile.specs.declared.flag_rules.RuleFile.{RuleFile}
use Rattle.gv_profile.specs.Eapi.{has_stable}
use Rattle.gv_profile.specs.Lines.{line_words, file_lines}
use Rattle.gv_profile.specs.FlagLines.{flag_line, flag_of, flag_words, is_off}
use Rattle.gv_profile.specs.declared.flag_lines.FlagLine.{FlagLine}
use Rattle.gv_profile.specs.declared.flag_lines.FlagLine.TheVariants as kinds

abbrev pub rule_of : RuleFile → Option Atom → List ℕ → Rule
rule_of file atom word = record { effect = file.effect; stable = file.stable; atom = atom; flag = flag_of word; on = not (is_off word) }

-- a rule for each flag of a good line
abbrev pub rules_with : RuleFile → List (List ℕ) → FlagLine → List Rule
rules_with file words kinds.Blank = []
rules_with file words (kinds.Good atom) = map (rule_of file atom) words
rules_with file words (kinds.Bad bad) = []

abbrev pub line_rules : RuleFile → List (List ℕ) → List Rule
line_rules file words = rules_with file (flag_words file.by_package words) (flag_line file.by_package words)

abbrev pub rules_among : RuleFile → List (List ℕ) → List Rule
rules_among file lines = flat_map (λ line. line_rules file (line_words line)) lines

abbrev pub rules_in : RuleFile → List NamedFile → List Rule
rules_in file files = flat_map (λ f. rules_among file (file_lines f.bytes)) files

-- the kinds of files
abbrev pub masks : (stable by_package : Bool) → RuleFile
masks stable by_package = record { effect = Mask; stable = stable; by_package = by_package }

abbrev pub forces : (stable by_package : Bool) → RuleFile
forces stable by_package = record { effect = Force; stable = stable; by_package = by_package }

abbrev pub stable_rules : DirFiles → List Rule → List Rule
stable_rules files rules = if has_stable files then rules else []

-- plain, stable, package, package stable
abbrev pub dir_rules : DirFiles → List Rule
dir_rules files =
    (rules_in (masks false false) files.use_mask ++ rules_in (forces false false) files.use_force)
    ++ (stable_rules files (rules_in (masks true false) files.use_stable_mask ++ rules_in (forces true false) files.use_stable_force)
    ++ ((rules_in (masks false true) files.package_use_mask ++ rules_in (forces false true) files.package_use_force)
    ++ stable_rules files (rules_in (masks true true) files.package_use_stable_mask ++ rules_in (forces true true) files.package_use_stable_force)))
