use Rattle.std.proofs.Common.{sym}
use Rattle.gv_defaults.proofs.ItemLemmas.{comment}
use Rattle.gv_defaults.proofs.items.first_item.Goals as goal

pub returns-then-byte-eq35 : goal.returns-then-byte-eq35
returns-then-byte-eq35 c =
    comment c.args.bytes.now c.in-Some.byte c.in-Some.behind.now c.comment_len-len.result c.in-Some.ensures (sym c.if-is_space.ensures) c.if-byte-eq35.true c.comment_len-len.ensures.len c.comment_len-len.ensures.within
