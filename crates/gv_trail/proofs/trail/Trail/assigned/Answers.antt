use Rattle.std.proofs.Common.{◌∙◌, ap}
use Rattle.gv_trail.specs.Entries.{State, lits_of}
use Rattle.gv_trail.proofs.Entries.{lits_are}
use Rattle.gv_trail.proofs.trail.Trail.assigned.Goals as goal

pub returns : goal.returns
returns c =
    c.deref.ensures.value ∙ lits_are c.self.inside.causes.items c.self.inside.lits.items ∙ ap (λ (s : State). lits_of s.entries) c.self.view_is
