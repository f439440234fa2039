use Rattle.gv_base.specs.ByteMap.{map_of}
use Rattle.gv_usedefaults.proofs.PlaceMaps.{place_added}
use Rattle.gv_usedefaults.proofs.dir_places.DirPlaces.add.Goals as goal

pub returns : goal.returns
returns c = place_added (map_of c.args.self.now.map.entries) (map_of c.taken-places.new.map.entries) (map_of c.put.new.map.entries) c.args.dir.now
    c.taken-places.result.items c.push.new.self c.args.place
    c.taken-places.ensures.these c.taken-places.ensures.others c.in_ok-push.ensures.items c.in_ok-put.ensures
