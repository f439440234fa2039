use Rattle.std.proofs.Common.{◌≡◌, ◌+◌, ◌<◌, length, arith}
use Rattle.std.specs.List.{remove}
use Rattle.gv_logic.specs.Kept.{IsOpen}
use Rattle.gv_solver.proofs.Derive.{clash_closed}
use Rattle.gv_solver.proofs.Drop.{put_back_as, has_remove, rising_remove, range_remove, tight_less, tight_more}
use Rattle.gv_solver.proofs.probing.drop_members.Goals as goal

pub probe-requires-clause-range : goal.probe-requires-clause-range
probe-requires-clause-range c =
    rw (c.deref.ensures.value, c.remove-member.ensures.items) (range_remove c.loop-i.trail.variables c.loop-i.set.items c.loop-i.i c.loop-i.invariant.range)

pub loop-i-preserved : goal.loop-i-preserved
loop-i-preserved c =
    let xs = c.loop-i.set.items in
    let i = c.loop-i.i in
    let inv = c.loop-i.invariant in
    let cs = c.args.clauses.now.clauses in
    let lt : c.loop-i.i < length c.loop-i.set.items = omega (arith, c.loop-i-test.true, c.len.ensures) in
    let same : c.insert.new.self.items ≡ c.loop-i.set.items = put_back_as c.loop-i.set.items c.remove-member.new.self.items c.insert.new.self.items c.loop-i.i c.remove-member.result lt
    c.remove-member.ensures.items c.remove-member.ensures.value c.in_ok-insert-in-None.ensures.items in
    let open_ : IsOpen (remove c.loop-i.set.items c.loop-i.i) c.args.clauses.now.clauses = rw (c.deref.ensures.value, c.remove-member.ensures.items) at c.in-None.ensures.says in
    rw same (record {
      over = c.probe.ensures.over;
      few = rw c.probe.ensures.variables inv.few;
      clash = inv.clash;
      tight = tight_more cs xs i inv.tight open_;
      within = inv.within;
      rising = inv.rising;
      range = rw c.probe.ensures.variables inv.range;
      at = omega (arith, lt);
    })

pub loop-i-preserved-in-Some : goal.loop-i-preserved-in-Some
loop-i-preserved-in-Some c =
    let xs = c.loop-i.set.items in
    let i = c.loop-i.i in
    let inv = c.loop-i.invariant in
    let cs = c.args.clauses.now.clauses in
    let clash = clash_closed cs c.deref.result.now c.probe.new.trail c.in-Some.field-0 c.probe.ensures.over.derived c.in-Some.ensures.says in
    let clash_ : IsOpen (remove c.loop-i.set.items c.loop-i.i) c.args.clauses.now.clauses → ⊥ = rw (c.deref.ensures.value, c.remove-member.ensures.items) at clash in
    let lt : c.loop-i.i < length c.loop-i.set.items = omega (arith, c.loop-i-test.true, c.len.ensures) in
    let long = c.remove-member.ensures.len in
    let fits : length c.remove-member.new.self.items + 1 ≡ length c.loop-i.set.items = omega (arith, long, c.remove-member.new.self.ok.0, c.loop-i.set.ok.0) in
    rw c.remove-member.ensures.items (record {
      over = c.probe.ensures.over;
      few = rw c.probe.ensures.variables inv.few;
      clash = clash_;
      tight = tight_less cs xs i inv.tight;
      within = λ m h. inv.within m (has_remove xs i m h);
      rising = λ b t r. rising_remove b t xs i (inv.rising b t r);
      range = rw c.probe.ensures.variables (range_remove c.loop-i.trail.variables xs i inv.range);
      at = omega (arith, lt, rw c.remove-member.ensures.items at fits);
    })
