use Rattle.std.proofs.Common.{◌≡◌, ◌+◌, ◌∷◌, drop, get_or, inl, inr, refl}
use Rattle.gv_trail.specs.Entries.{assignment}
use Rattle.gv_solver.proofs.Core.{below_refl, below_trans}
use Rattle.gv_solver.proofs.Grow.{rest_at, grows_more}
use Rattle.gv_solver.proofs.probing.set_off.Goals as goal

pub loop-member-init : goal.loop-member-init
loop-member-init c = record {
  grows = record { variables = refl; more = below_refl (assignment c.args.trail.now); over = λ f t. t; among = λ whole w a. a };
  off = λ on b a. a;
  has = λ i h. h;
  range = c.requires.range;
  few = c.requires.few;
}

pub put_off-requires-clause-range : goal.put_off-requires-clause-range
put_off-requires-clause-range c = (rw (rest_at c.args.set.now c.loop-member.member-index c.loop-member-test.true) at c.loop-member.invariant.range).0

pub put_off-requires-clause-few : goal.put_off-requires-clause-few
put_off-requires-clause-few c = c.loop-member.invariant.few

pub returns-then-not-put_off-clause-grows : goal.returns-then-not-put_off-clause-grows
returns-then-not-put_off-clause-grows c =
    let m = get_or c.args.set.now c.loop-member.member-index 0 in
    grows_more c.args.set.now m c.args.trail.now c.loop-member.trail c.put_off.new.trail c.loop-member.invariant.grows
    (c.loop-member.invariant.has m (rw (rest_at c.args.set.now c.loop-member.member-index c.loop-member-test.true) (inl refl))) c.put_off.ensures.grows

pub returns-then-not-put_off-clause-on : goal.returns-then-not-put_off-clause-on
returns-then-not-put_off-clause-on c e =
    let m = get_or c.args.set.now c.loop-member.member-index 0 in
    (m, c.loop-member.invariant.has m (rw (rest_at c.args.set.now c.loop-member.member-index c.loop-member-test.true) (inl refl)), c.put_off.ensures.on c.if-not-put_off.true)

pub loop-member-preserved : goal.loop-member-preserved
loop-member-preserved c =
    let m = get_or c.args.set.now c.loop-member.member-index 0 in
    let i = c.loop-member.invariant in
    let rest : drop c.loop-member.member-index c.args.set.now ≡ get_or c.args.set.now c.loop-member.member-index 0 ∷ drop (c.loop-member.member-index + 1) c.args.set.now = rest_at c.args.set.now c.loop-member.member-index c.loop-member-test.true in
    record {
      grows = grows_more c.args.set.now m c.args.trail.now c.loop-member.trail c.put_off.new.trail i.grows (i.has m (rw rest (inl refl))) c.put_off.ensures.grows;
      off = λ on b a. i.off on (below_trans (assignment c.loop-member.trail) (assignment c.put_off.new.trail) on c.put_off.ensures.grows.more b) (rw rest (b.at _ (c.put_off.ensures.off c.if-not-put_off.false), a));
      has = λ j h. i.has j (rw rest (inr h));
      range = rw c.put_off.ensures.grows.variables ((rw rest at i.range).1);
      few = rw c.put_off.ensures.grows.variables i.few;
    }
