use Rattle.std.proofs.Common.{[], sym}
use Rattle.std.proofs.lemmas.List.{append-nil}
use Rattle.gv_profile.proofs.frames.Way.has.Goals as goal

pub returns : goal.returns
returns c =
    rw (c.stands_at.ensures, c.place_of.ensures, c.deref.ensures.value, ← c.self.view_is)
    (sym (c.self.invariant c.self.inside.frames.items [] (sym (append-nil _)) c.args.dir.now))
