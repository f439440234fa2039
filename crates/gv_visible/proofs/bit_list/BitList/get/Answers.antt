use Rattle.std.proofs.Common.{arith, sym}
use Rattle.gv_visible.proofs.BitLists.{get_past, get_read}
use Rattle.gv_visible.proofs.bit_list.BitList.get.Goals as goal

pub returns-then-place-self : goal.returns-then-place-self
returns-then-place-self c =
    let kept = c.self.inside in
    rw (← c.self.view_is) (sym (get_past kept.words.items kept.len c.args.place (omega (arith, c.if-place-self.true))))

pub returns : goal.returns
returns c =
    let kept = c.self.inside in
    rw (← c.self.view_is) (sym (get_read kept.words.items kept.len c.args.place c.index-word.result.now (omega (arith, c.if-place-self.false)) c.self.invariant c.index-word.ensures))
