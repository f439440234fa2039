use Rattle.std.proofs.Common.{ap, ◌∙◌}
use Rattle.std.proofs.lemmas.List.Filters.{dedup_is}
use Rattle.gv_base.specs.Order.{in_order}
use Rattle.gv_expr.proofs.MentionedFlags.{sorted_in_order, text_eq}
use Rattle.gv_expr.proofs.mentions.Mentions.put_in_order.Goals as goal

pub returns : goal.returns
returns c =
    sorted_in_order c.in_order_law.ensures c.self.inside.flags.items c.sort.new.self.items c.dedup.new.self.items c.sort.ensures.permutation c.in_ok-sort.ensures.sorted
    (dedup_is text_eq c.sort.new.self.items c.dedup.new.self.items c.dedup.ensures.filtered)
    ∙ ap in_order c.self.view_is
