use Rattle.std.proofs.Common.{◌∙◌, sym, ap}
use Rattle.gv_trail.specs.Entries.{State, lits_of}
use Rattle.gv_trail.specs.Look.{open_to}
use Rattle.gv_trail.proofs.Entries.{lits_are}
use Rattle.gv_trail.proofs.trail.Trail.open_to.Goals as goal

pub returns : goal.returns
returns c =
    c.open_to.ensures c.args.lit (sym c.opposite.ensures)
    ∙ ap (open_to c.args.lit) (c.deref.ensures.value ∙ lits_are c.self.inside.causes.items c.self.inside.lits.items ∙ ap (λ (s : State). lits_of s.entries) c.self.view_is)
