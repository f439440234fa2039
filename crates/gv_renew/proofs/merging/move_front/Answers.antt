use Rattle.std.proofs.Common.{◌≡◌, ◌++◌, ◌+◌, ◌-◌, [], ◌∷◌, take, ap, ◌∙◌}
use Rattle.gv_renew.proofs.Weaving.{drop_ended, moved, moved_off, take_ended}
use Rattle.gv_renew.proofs.merging.move_front.Goals.{in-Some+in_ok-push, in_default}
use Rattle.gv_renew.proofs.merging.move_front.Goals as goal

pub loop-preserved : goal.loop-preserved
loop-preserved c =
    let count = c.args.count in
    let i = c.loop.counter in
    let rest = c.loop.rest.items in
    let more = c.pop_front.new.self.items in
    let every = c.match-pop_front.woven.items in
    let lt = c.loop-test.true in
    elim c.match-pop_front.branch [
      | in-Some+in_ok-push w ↦
          let end : every ≡ c.loop.woven.items ++ w.in-Some.one ∷ [] = ap (λ v. v.items) w.woven-is ∙ w.in_ok-push.ensures.items in
          record {
            woven = moved c.loop.woven.items every rest more _ w.in-Some.one count i lt w.in-Some.ensures.items end c.loop.invariant.woven;
            rest = moved_off rest more _ w.in-Some.one count i lt w.in-Some.ensures.items c.loop.invariant.rest;
          }
      | in_default w ↦ record {
        woven = ap (λ v. v.items ++ take (count - (i + 1)) more) w.woven-is
            ∙ ap (λ l. c.loop.woven.items ++ l) (take_ended (count - i) (count - (i + 1)) rest more w.in_default.ensures.items c.pop_front.ensures.rest) ∙ c.loop.invariant.woven;
        rest = drop_ended (count - i) (count - (i + 1)) rest more w.in_default.ensures.items c.pop_front.ensures.rest ∙ c.loop.invariant.rest;
      }
    ]
