-- The masks of lines are those that no line behind them takes away.
use Rattle.std.proofs.Common.{◌≡◌, ℕ, List, [], ◌∷◌, ◌++◌, Bool, true, false, not, arith, refl, sym, ap, ◌∙◌, append_assoc, append-nil, filter}
use Rattle.std.specs.Prelude.{fold, if◌then◌else◌}
use Rattle.std.specs.List.{list_any}
use Rattle.std.specs.Str.{bytes_eq}
use Rattle.std.proofs.lemmas.List.Elements.{filter-append}
use Rattle.gv_facts.specs.declared.masks.Mask.{Mask}
use Rattle.gv_profile.specs.declared.mask_lines.MaskLine.{MaskLine}
use Rattle.gv_profile.specs.declared.mask_lines.MaskLine.TheVariants.{Adds, Takes}
use Rattle.gv_profile.specs.Laws.{takes, staying}
use Rattle.gv_profile.specs.MaskLines.{mask_after, masks_of}

-- those that no line takes away
abbrev left_by : List MaskLine → List Mask → List Mask
left_by lines masks = filter (λ m. not (list_any (takes m.text) lines)) masks

all_left : (masks : List Mask) → left_by [] masks ≡ masks
all_left [] = refl
all_left (m ∷ ms) = ap (λ xs. m ∷ xs) (all_left ms)

one_more : (b : Bool) (mask : Mask) (rest : List Mask) → (if not b then mask ∷ [] else []) ++ rest ≡ (if b then rest else mask ∷ rest)
one_more true mask rest = refl
one_more false mask rest = refl

both : (text : List ℕ) (lines : List MaskLine) (masks : List Mask) → left_by lines (filter (λ m. not (bytes_eq m.text text)) masks) ≡ left_by (Takes text ∷ lines) masks
both text lines [] = refl
both text lines (m ∷ ms) = at m (both text lines ms)
  where
    at : (m : Mask) → left_by lines (filter (λ m. not (bytes_eq m.text text)) ms) ≡ left_by (Takes text ∷ lines) ms →
        left_by lines (filter (λ m. not (bytes_eq m.text text)) (m ∷ ms)) ≡ left_by (Takes text ∷ lines) (m ∷ ms)
    at m rest = grind (arith, rest)

folded : (masks : List Mask) (lines : List MaskLine) → fold mask_after masks lines ≡ left_by lines masks ++ staying lines
folded masks [] = sym (append-nil (left_by [] masks) ∙ all_left masks)
folded masks (Adds mask ∷ lines) =
    folded (masks ++ mask ∷ []) lines
    ∙ ap (λ ms. ms ++ staying lines) (filter-append (λ m. not (list_any (takes m.text) lines)) masks (mask ∷ []))
    ∙ append_assoc (left_by lines masks) (left_by lines (mask ∷ [])) (staying lines)
    ∙ ap (λ ms. left_by lines masks ++ ms) (one_more (list_any (takes mask.text) lines) mask (staying lines))
folded masks (Takes text ∷ lines) =
    folded (filter (λ m. not (bytes_eq m.text text)) masks) lines
    ∙ ap (λ ms. ms ++ staying lines) (both text lines masks)

pub all_staying : (lines : List MaskLine) → masks_of lines ≡ staying lines
all_staying lines = folded [] lines
