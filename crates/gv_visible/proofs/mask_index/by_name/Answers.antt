use Rattle.std.proofs.Common.{◌≡◌, ◌<◌, ◌≤◌, length, get_or, take, arith, subst}
use Rattle.std.proofs.Math.Seq.{take-length}
use Rattle.gv_facts.specs.Places.{is_mask_of}
use Rattle.gv_visible.proofs.NameMap.{Holds, all_came, mask_keyed, one_more}
use Rattle.gv_visible.proofs.mask_index.by_name.Goals as goal

pub loop-mask-preserved : goal.loop-mask-preserved
loop-mask-preserved c =
    let masks = c.args.masks.now in
    let m = c.mask-item.result in
    let lt : c.loop-mask.mask-index < length masks = rw c.items-mask-items.ensures at c.loop-mask-test.true in
    let is : m ≡ get_or masks c.loop-mask.mask-index m = rw c.items-mask-items.ensures at c.mask-item.is in
    one_more is_mask_of m.atom.category m.atom.name c.loop-mask.places.entries c.insert.new.self.entries masks c.loop-mask.mask-index m (c.bytes-category.result, c.bytes-name.result) c.places_of.result
    (mask_keyed m) lt is c.bytes-category.ensures c.bytes-name.ensures (rw (c.bytes-category.ensures, c.bytes-name.ensures) at c.places_of.ensures.places) c.in_ok-insert.ensures.entries c.loop-mask.invariant

pub returns : goal.returns
returns c =
    let masks = c.args.masks.now in
    let least : length masks ≤ c.loop-mask.mask-index = rw c.items-mask-items.ensures at c.loop-mask-test.false in
    let most : c.loop-mask.mask-index ≤ length masks = rw c.items-mask-items.ensures at c.loop-mask.auto.mask-index-end in
    let end : length masks ≡ c.loop-mask.mask-index = omega (arith, least, most) in
    let whole : take c.loop-mask.mask-index masks ≡ masks = subst (λ n. take n masks ≡ masks) end (take-length masks) in
    all_came is_mask_of c.loop-mask.places.entries masks (subst (λ came. Holds is_mask_of c.loop-mask.places.entries came masks) whole c.loop-mask.invariant)
