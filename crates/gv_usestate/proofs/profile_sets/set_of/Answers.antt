use Rattle.std.proofs.Common.{◌<◌, ◌≡◌, ◌∙◌, length, get_or}
use Rattle.gv_base.specs.Order.{has_text}
use Rattle.gv_usestate.proofs.FlagSetLemmas.{one_more_flag}
use Rattle.gv_usestate.proofs.profile_sets.set_of.Goals as goal

pub loop-flag-preserved : goal.loop-flag-preserved
loop-flag-preserved c =
    let flags = c.args.flags.now in
    let f = c.flag-item.result in
    let lt : c.loop-flag.flag-index < length flags = rw c.items-flag-items.ensures at c.loop-flag-test.true in
    let is : f ≡ get_or flags c.loop-flag.flag-index f = rw c.items-flag-items.ensures at c.flag-item.is in
    λ flag. one_more_flag c.loop-flag.set.keys c.insert.new.self.keys flags c.loop-flag.flag-index f c.in_ok-key.key lt is (c.in_ok-key.ensures.items ∙ c.bytes.ensures) c.in_ok-insert.ensures.keys flag
    (has_text flags flag) (c.loop-flag.invariant flag)
