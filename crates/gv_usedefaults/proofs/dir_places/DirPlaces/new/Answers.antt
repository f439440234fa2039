use Rattle.gv_usedefaults.proofs.PlaceMaps.{no_places}
use Rattle.gv_usedefaults.proofs.dir_places.DirPlaces.new.Goals as goal

pub returns : goal.returns
returns c = no_places c.new.result.entries c.new.ensures.empty
