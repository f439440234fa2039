use Rattle.std.proofs.Common.{take}
use Rattle.gv_facts.specs.Places.{is_mask_of}
use Rattle.gv_visible.proofs.NameMap.{Holds}
use Rattle.gv_visible.proofs.mask_index.by_name.Given as goal

abbrev pub invariant-loop-mask : goal.invariant-loop-mask
invariant-loop-mask l = Holds is_mask_of l.places.entries (take l.mask-index l.masks) l.masks
