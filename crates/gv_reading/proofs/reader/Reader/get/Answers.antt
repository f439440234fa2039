use Rattle.std.proofs.Common.{ap, sym, ◌∙◌}
use Rattle.std.specs.FinMap.{get}
use Rattle.gv_reading.specs.Reader.{Seen}
use Rattle.gv_reading.proofs.reader.Reader.get.Goals as goal

pub returns-in-Some : goal.returns-in-Some
returns-in-Some c =
    c.in-Some.ensures.value
    ∙ sym (c.map_law.ensures.get c.self.inside.known.entries c.args.path.now)
    ∙ ap (λ (s : Seen). get s.known c.args.path.now) c.self.view_is

pub returns-in-None : goal.returns-in-None
returns-in-None c =
    c.in-None.ensures.value
    ∙ sym (c.map_law.ensures.get c.self.inside.known.entries c.args.path.now)
    ∙ ap (λ (s : Seen). get s.known c.args.path.now) c.self.view_is
