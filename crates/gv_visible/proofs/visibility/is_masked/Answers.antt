use Rattle.gv_visible.proofs.MaskPlaces.{at_places}
use Rattle.gv_visible.proofs.visibility.is_masked.Goals as goal

pub returns : goal.returns
returns c =
    rw (c.some_matches.ensures, c.items.ensures)
    (at_places c.args.pkg.now c.args.masks.now c.places_of-places.result.now (rw (c.bytes.ensures, c.bytes-2.ensures) at c.places_of-places.ensures.items))
