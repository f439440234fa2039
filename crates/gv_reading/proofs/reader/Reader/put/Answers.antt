use Rattle.std.proofs.Common.{List, ℕ, ap, ◌∙◌}
use Rattle.std.specs.FinMap.{insert}
use Rattle.gv_base.specs.ByteMap.{ByteMap, map_of}
use Rattle.gv_base.specs.declared.tree.Found.{Found}
use Rattle.gv_reading.specs.Reader.{Seen}
use Rattle.gv_reading.proofs.reader.Reader.put.Goals as goal

pub returns : goal.returns
returns c =
    let known =
    ap map_of c.in_ok-insert.ensures.entries
    ∙ c.map_law.ensures.insert c.self.inside.known.entries c.in_ok-key.key c.args.found
    ∙ ap (λ (s : Seen). insert s.known c.in_ok-key.key.items c.args.found) c.self.view_is
    ∙ ap (λ (k : List ℕ). insert c.args.self.now.known k c.args.found) (c.in_ok-key.ensures ∙ c.bytes.ensures) in
    ap (λ (m : ByteMap Found). let s : Seen = record { known = m; found = c.args.files } in s) known
