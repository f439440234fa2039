use Rattle.std.proofs.Common.{◌≡◌, ◌+◌, arith, ap, ◌∙◌, length}
use Rattle.std.specs.Vec.{with_items}
use Rattle.std.proofs.lemmas.List.{with_items_is}
use Rattle.gv_visible.specs.BitList.{bits_of, is_on}
use Rattle.gv_visible.proofs.BitLists.{pushed}
use Rattle.gv_visible.proofs.bit_list.BitList.push.Goals as goal

pub returns-clause-ok : goal.returns-clause-ok
returns-clause-ok c =
    let old = c.self.inside.words.items in
    let room = c.make_room.new.words in
    let new = c.put.new.words in
    let n = c.self.inside.len in
    let whole : (with_items room new).items ≡ new = with_items_is room new (omega (arith, c.put.ensures.length, ap length c.deref_mut.ensures.value, room.ok.0)) in
    rw (← c.self.view_is)
    (ap (λ words. bits_of words (n + 1)) whole
    ∙ pushed old room.items new n c.args.bit c.in_ok-make_room.ensures.same (λ i apart. c.put.ensures.others i apart ∙ ap (λ words. is_on words i) c.deref_mut.ensures.value) c.put.ensures.here)
