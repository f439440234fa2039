-- Masks, line by line from the last one.
use Rattle.std.proofs.Common.{◌≡◌, ℕ, List, [], ◌∷◌, ◌++◌, not, ◌||◌, arith, refl, ap, filter}
use Rattle.std.specs.Prelude.{reverse, fold}
use Rattle.std.specs.Str.{bytes_eq}
use Rattle.gv_base.specs.Order.{has_text}
use Rattle.gv_facts.specs.declared.masks.Mask.{Mask}
use Rattle.gv_profile.specs.declared.mask_lines.MaskLine.{MaskLine}
use Rattle.gv_profile.specs.MaskLines.{mask_after, masks_of}

fold_last : (start : List Mask) (ls : List MaskLine) (line : MaskLine) → fold mask_after start (ls ++ line ∷ []) ≡ mask_after (fold mask_after start ls) line
fold_last start [] line = refl
fold_last start (l ∷ ls) line = fold_last (mask_after start l) ls line

pub last_mask : (lines : List MaskLine) (line : MaskLine) → masks_of (lines ++ line ∷ []) ≡ mask_after (masks_of lines) line
last_mask lines line = fold_last [] lines line

-- what a text and those before it take
pub filter_both : (text : List ℕ) (before now : List (List ℕ)) (masks : List Mask) →
    ((t : List ℕ) → has_text now t ≡ (bytes_eq t text || has_text before t)) →
    filter (λ m. not (has_text now m.text)) masks ≡ filter (λ m. not (has_text before m.text)) (filter (λ m. not (bytes_eq m.text text)) masks)
filter_both text before now [] more = refl
filter_both text before now (m ∷ ms) more = both_at m (filter_both text before now ms more) (more m.text)
  where
    both_at : (m : Mask) →
        filter (λ m. not (has_text now m.text)) ms ≡ filter (λ m. not (has_text before m.text)) (filter (λ m. not (bytes_eq m.text text)) ms) →
        has_text now m.text ≡ (bytes_eq m.text text || has_text before m.text) →
        filter (λ m. not (has_text now m.text)) (m ∷ ms) ≡ filter (λ m. not (has_text before m.text)) (filter (λ m. not (bytes_eq m.text text)) (m ∷ ms))
    both_at m rest at = grind (arith, rest, at)

-- a text more that is taken away
pub takes_more : (before now : List (List ℕ)) (kept : List Mask) (text : List ℕ) (masks : List Mask) →
    ((t : List ℕ) → has_text now t ≡ (bytes_eq t text || has_text before t)) →
    filter (λ m. not (has_text now m.text)) masks ++ reverse kept ≡ filter (λ m. not (has_text before m.text)) (filter (λ m. not (bytes_eq m.text text)) masks) ++ reverse kept
takes_more before now kept text masks more = ap (λ ms. ms ++ reverse kept) (filter_both text before now masks more)

-- with nothing behind all stay
pub nothing_behind : (masks : List Mask) → filter (λ m. not (has_text [] m.text)) masks ++ [] ≡ masks
nothing_behind [] = refl
nothing_behind (m ∷ ms) = ap (λ xs. m ∷ xs) (nothing_behind ms)
