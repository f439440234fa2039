use Rattle.gv_base.specs.ByteMap.{map_of}
use Rattle.gv_profile.proofs.WayLemmas.{pushed}
use Rattle.gv_profile.proofs.frames.Way.with.Goals as goal

pub invariant_of-result : goal.invariant_of-result
invariant_of-result c =
    rw (c.in_ok-push.ensures.items, c.in_ok-add_place.ensures, c.deref.ensures.value)
    (pushed c.self.inside.frames.items c.args.frame (map_of c.self.inside.places.entries) c.self.invariant)
