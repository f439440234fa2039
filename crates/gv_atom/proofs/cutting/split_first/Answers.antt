use Rattle.std.proofs.Common.{◌<◌, [], ◌∷◌, length, sym, ap, ◌∙◌, arith}
use Rattle.gv_base.specs.Cut.{from_first}
use Rattle.gv_atom.proofs.Splitting.{one_text, more_texts}
use Rattle.gv_atom.proofs.cutting.split_first.Goals as goal

pub returns-in-empty-clause-texts : goal.returns-in-empty-clause-texts
returns-in-empty-clause-texts c =
    let short : length (from_first c.args.byte c.args.bytes.now) < 1 = rw (← c.cut.ensures.rest) c.in-empty.len_below in
    one_text c.args.byte c.args.bytes.now short ∙ ap (λ x. x ∷ []) (sym c.cut.ensures.front)

pub returns-in-len1-up-clause-texts : goal.returns-in-len1-up-clause-texts
returns-in-len1-up-clause-texts c =
    rw (c.cut.ensures.front, c.cut.ensures.rest) (more_texts c.args.byte c.args.bytes.now (omega (arith, ap length c.cut.ensures.rest)))
