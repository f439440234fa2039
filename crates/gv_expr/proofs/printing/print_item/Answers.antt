use Rattle.gv_expr.proofs.SpacedLemmas.{item_printed}
use Rattle.gv_expr.proofs.printing.print_item.Goals as goal

pub returns : goal.returns
returns c =
    item_printed c.items.inside.items.items c.args.items.now c.args.n c.index.result.now c.in_ok-text.text c.append_dep.new.text c.in_ok-cut.cut
    c.items.view_is c.requires c.index.ensures c.in_ok-text.ensures c.in_ok-append_dep.ensures c.in_ok-cut.ensures
