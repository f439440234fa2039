use Rattle.std.proofs.Common.{sym, ◌∙◌}
use Rattle.gv_defaults.proofs.ReadLemmas.{begins, goes_on}
use Rattle.gv_defaults.proofs.assigning.read_file.Goals as goal

pub loop-item-init : goal.loop-item-init
loop-item-init c = rw c.new-values.ensures.empty (begins c.args.before.now c.args.bytes.now)

pub loop-item-preserved : goal.loop-item-preserved
loop-item-preserved c =
    let len = c.in_ok-assign.ensures.len in
    let more = goes_on c.args.before.now c.args.bytes.now _ _ _ c.in-Some.item c.in-Some-2.len c.in-Some.ensures (sym len ∙ c.in-Some-2.is) c.loop-item.invariant in
    rw (c.in_ok-assign.ensures.values, c.in_ok-line-in-Some-2.ensures, c.split_at.ensures.front, c.split_at.ensures.back) more
