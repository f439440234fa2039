-- Words of private contracts: masks under lines that stand behind them.
use Rattle.std.specs.Prelude.{List, ◌++◌, not, filter, reverse}
use Rattle.gv_base.specs.Order.{has_text}
use Rattle.gv_facts.specs.declared.masks.Mask.{Mask}
use Rattle.gv_profile.specs.declared.mask_lines.Behind.{Behind}

-- what stays of masks, and then the masks of the lines behind
abbrev pub still : Behind → List Mask → List Mask
still behind masks = filter (λ m. not (has_text behind.taken.keys m.text)) masks ++ reverse behind.kept.items
