-- What the directories of a stack add, one after the other.
use Rattle.std.proofs.Common.{◌≡◌, ℕ, List, [], ◌∷◌, ◌++◌, Some, None, refl, sym, ap, ◌∙◌, append_assoc, append-nil}
use Rattle.std.specs.Prelude.{Option, fold, flat_map}
use Rattle.std.specs.Option.{option_map_or}
use Rattle.std.proofs.lemmas.Grind.{flat_map-append}
use Rattle.gv_profile.specs.declared.desc.DescLine.{DescLine}
use Rattle.gv_profile.specs.declared.files.DirFiles.{DirFiles}
use Rattle.gv_reading.specs.declared.files.NamedFile.{NamedFile}
use Rattle.gv_profile.specs.declared.folding.Folded.{Folded}
use Rattle.gv_profile.specs.Folding.{profile_of, start, with_dir, with_files}
use Rattle.gv_profile.specs.Laws.{IsApplied, masks_at, rules_at}
use Rattle.gv_profile.specs.MaskLines.{mask_lines, masks_of}
use Rattle.gv_profile.specs.FlagRules.{dir_rules}
use Rattle.gv_profile.specs.Walking.{Look, line_walk, stack_of}
use Rattle.gv_profile.proofs.MaskLaw.{all_staying}

more_rules : (folded : Folded) (files : Option DirFiles) → (with_files folded files).rules ≡ folded.rules ++ option_map_or dir_rules files []
more_rules folded None = sym (append-nil folded.rules)
more_rules folded (Some files) = refl

more_lines : (folded : Folded) (files : Option DirFiles) → (with_files folded files).lines ≡ folded.lines ++ option_map_or (λ (f : DirFiles). mask_lines f.package_mask) files []
more_lines folded None = sym (append-nil folded.lines)
more_lines folded (Some files) = refl

all_rules : (look : Look) (folded : Folded) (stack : List (List ℕ)) → (fold (with_dir look) folded stack).rules ≡ folded.rules ++ flat_map (rules_at look) stack
all_rules look folded [] = sym (append-nil folded.rules)
all_rules look folded (dir ∷ dirs) =
    all_rules look (with_dir look folded dir) dirs
    ∙ ap (λ rules. rules ++ flat_map (rules_at look) dirs) (more_rules folded (look dir))
    ∙ append_assoc folded.rules (rules_at look dir) (flat_map (rules_at look) dirs)

all_lines : (look : Look) (folded : Folded) (stack : List (List ℕ)) → (fold (with_dir look) folded stack).lines ≡ folded.lines ++ flat_map (masks_at look) stack
all_lines look folded [] = sym (append-nil folded.lines)
all_lines look folded (dir ∷ dirs) =
    all_lines look (with_dir look folded dir) dirs
    ∙ ap (λ lines. lines ++ flat_map (masks_at look) dirs) (more_lines folded (look dir))
    ∙ append_assoc folded.lines (masks_at look dir) (flat_map (masks_at look) dirs)

pub applied : (look : Look) (first : List NamedFile) (line : DescLine) → IsApplied look first line (stack_of (line_walk look line))
applied look first line =
    let stack = stack_of (line_walk look line) in
    let rules : (profile_of look first line).rules ≡ flat_map (rules_at look) stack = all_rules look (start first) stack in
    record {
      rules = rules;
      masks = ap masks_of (all_lines look (start first) stack) ∙ all_staying (mask_lines first ++ flat_map (masks_at look) stack);
      twice = λ front dir middle back is.
          rules
          ∙ ap (flat_map (rules_at look)) is
          ∙ flat_map-append (rules_at look) front (dir ∷ (middle ++ dir ∷ back))
          ∙ ap (λ rs. flat_map (rules_at look) front ++ (rules_at look dir ++ rs)) (flat_map-append (rules_at look) middle (dir ∷ back));
    }
