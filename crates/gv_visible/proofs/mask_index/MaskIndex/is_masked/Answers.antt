use Rattle.gv_facts.specs.Places.{is_mask_of, places_of}
use Rattle.gv_visible.proofs.MaskPlaces.{at_places}
use Rattle.gv_visible.proofs.Placed.{items_at}
use Rattle.gv_visible.proofs.mask_index.MaskIndex.is_masked.Goals as goal

pub returns : goal.returns
returns c =
    let pkg = c.args.pkg.now in
    let masks = c.args.self.now.masks in
    rw (c.some_matches.ensures, c.items.ensures, c.profile.ensures, c.at-places.ensures, c.bytes.ensures, c.bytes-2.ensures)
    (at_places pkg masks (places_of (is_mask_of pkg.category pkg.name) masks) (items_at (is_mask_of pkg.category pkg.name) masks))
