use Rattle.std.proofs.Common.{◌++◌, ap, sym, ◌∙◌}
use Rattle.std.specs.List.{join_with_byte}
use Rattle.gv_base.specs.PrivateWords.{each_behind}
use Rattle.gv_base.proofs.PieceLemmas.{join_first}
use Rattle.gv_base.proofs.texts.Texts.joined.Goals as goal

pub returns : goal.returns
returns c =
    c.in_ok-append_each.ensures
    ∙ ap (λ text. text ++ each_behind c.args.byte c.in-Some.rest.now) c.in_ok-text.ensures
    ∙ join_first c.args.byte c.in-Some.first.now c.in-Some.rest.now
    ∙ ap (join_with_byte c.args.byte) (sym c.in-Some.ensures.cases.0 ∙ c.items.ensures)
