use Rattle.std.proofs.Common.{ap, ◌∙◌}
use Rattle.std.specs.FinMap.{insert}
use Rattle.gv_base.specs.ByteMap.{map_of}
use Rattle.gv_base.proofs.ByteMaps.{map_of-insert_entry}
use Rattle.gv_base.proofs.file_map.Files.put.Goals as goal

pub returns-clause-ok : goal.returns-clause-ok
returns-clause-ok c =
    ap map_of c.in_ok-insert.ensures.entries
    ∙ map_of-insert_entry c.self.inside.map.entries c.in_ok-key.key c.in_ok-text.text
    ∙ ap (λ m. insert m c.in_ok-key.key.items c.in_ok-text.text) c.self.view_is
    ∙ ap (λ k. insert c.args.self.now k c.in_ok-text.text) c.in_ok-key.ensures.items
    ∙ ap (λ v. insert c.args.self.now c.args.path.now v) c.in_ok-text.ensures
