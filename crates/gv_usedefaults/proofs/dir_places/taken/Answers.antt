use Rattle.gv_base.specs.ByteMap.{map_of}
use Rattle.gv_usedefaults.proofs.PlaceMaps.{when_taken}
use Rattle.gv_usedefaults.proofs.dir_places.taken.Goals as goal

pub returns-in-Some-clause-others : goal.returns-in-Some-clause-others
returns-in-Some-clause-others c = when_taken (map_of c.args.map.now.entries) (map_of c.remove.new.self.entries) c.args.dir.now
    (c.map_law.ensures.remove c.args.map.now.entries c.remove.new.self.entries c.args.dir.now c.remove.ensures.entries c.remove.ensures.updates.1)
