-- What stacks, masks and rules on flags come to, in a maintainer's words.
use Rattle.std.specs.Prelude.{◌≡◌, ℕ, Bool, true, false, ◌&&◌, if◌then◌else◌, List, [], ◌∷◌, ◌++◌, Option, flat_map, codes}
use Rattle.std.specs.List.{list_any}
use Rattle.std.specs.Option.{option_map_or}
use Rattle.std.specs.Str.{bytes_eq}
use Rattle.gv_atom.specs.declared.atom.Atom.{Atom}
use Rattle.gv_facts.specs.declared.kinds.Level.{Level}
use Rattle.gv_facts.specs.declared.masks.Mask.{Mask}
use Rattle.gv_facts.specs.declared.pkg.Pkg.{Pkg}
use Rattle.gv_facts.specs.declared.profile.Profile.{Profile}
use Rattle.gv_facts.specs.declared.rules.Effect.{Effect}
use Rattle.gv_facts.specs.declared.rules.Rule.{Rule}
use Rattle.gv_facts.specs.States.{applies, has_effect, is_same}
use Rattle.gv_profile.specs.declared.desc.DescLine.{DescLine}
use Rattle.gv_profile.specs.declared.files.DirFiles.{DirFiles}
use Rattle.gv_reading.specs.declared.files.NamedFile.{NamedFile}
use Rattle.gv_profile.specs.declared.flag_rules.RuleFile.{RuleFile}
use Rattle.gv_profile.specs.declared.mask_lines.MaskLine.{MaskLine}
use Rattle.gv_profile.specs.declared.mask_lines.MaskLine.TheVariants.{Adds, Takes}
use Rattle.gv_profile.specs.Folding.{profile_of}
use Rattle.gv_profile.specs.MaskLines.{mask_lines}
use Rattle.gv_profile.specs.FlagRules.{dir_rules, rule_of}
use Rattle.gv_profile.specs.Walking.{Look}

-- ---- what the directories of a stack add

-- the rules of the directory at a path
abbrev pub rules_at : Look → List ℕ → List Rule
rules_at look dir = option_map_or dir_rules (look dir) []

-- the lines of its `package.mask`
abbrev pub masks_at : Look → List ℕ → List MaskLine
masks_at look dir = option_map_or (λ (files : DirFiles). mask_lines files.package_mask) (look dir) []

-- whether the line takes the text away
abbrev pub takes : List ℕ → MaskLine → Bool
takes text (Adds mask) = false
takes text (Takes other) = bytes_eq text other

-- the masks that no line behind them takes away
abbrev pub staying : List MaskLine → List Mask
staying [] = []
staying (Adds mask ∷ lines) = if list_any (takes mask.text) lines then staying lines else mask ∷ staying lines
staying (Takes text ∷ lines) = staying lines

-- the profile of a line, by the directories of its stack
pub record IsApplied (look : Look) (first : List NamedFile) (line : DescLine) (stack : List (List ℕ)) : Type 0 where
  -- each directory adds its rules, in stack order, as often as it stands there
  pub rules : (profile_of look first line).rules ≡ flat_map (rules_at look) stack
  -- a mask is in force exactly where no line behind it, of the same file, of another or of a later directory, takes its text
  -- away; the repository's own stand in front
  pub masks : (profile_of look first line).masks ≡ staying (mask_lines first ++ flat_map (masks_at look) stack)
  -- a directory that stands there twice is applied twice
  pub twice : (front : List (List ℕ)) (dir : List ℕ) (middle back : List (List ℕ)) → stack ≡ front ++ dir ∷ (middle ++ dir ∷ back) →
      (profile_of look first line).rules ≡ flat_map (rules_at look) front ++ (rules_at look dir ++ (flat_map (rules_at look) middle ++ (rules_at look dir ++ flat_map (rules_at look) back)))

-- ---- rules on flags

-- whether a rule decides on the flag for the package
abbrev pub decides : Effect → Pkg → Profile → Level → List ℕ → Rule → Bool
decides effect p profile level flag r = is_same effect r.effect && (bytes_eq r.flag flag && applies p profile level r)

-- the last rule that decides on the flag says whether it is masked, or forced
abbrev pub LastDecides : Type 0
LastDecides =
    (effect : Effect) (p : Pkg) (profile : Profile) (level : Level) (flag : List ℕ) (front : List Rule) (r : Rule) (back : List Rule) →
    profile.rules ≡ front ++ r ∷ back → decides effect p profile level flag r ≡ true → list_any (decides effect p profile level flag) back ≡ false →
    has_effect effect p profile level flag ≡ r.on

-- `-flag` undoes what stands in front of it, whatever that is, until a rule behind it decides anew
abbrev pub IsUndone : Type 0
IsUndone =
    (file : RuleFile) (atom : Option Atom) (p : Pkg) (profile : Profile) (level : Level) (flag : List ℕ) (front back : List Rule) →
    profile.rules ≡ front ++ rule_of file atom (codes "-" ++ flag) ∷ back → applies p profile level (rule_of file atom (codes "-" ++ flag)) ≡ true →
    list_any (decides file.effect p profile level flag) back ≡ false →
    has_effect file.effect p profile level flag ≡ false
