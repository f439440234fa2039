use Rattle.std.proofs.Common.{◌≡◌, ◌<◌, Some, length, get_or, ap}
use Rattle.std.specs.Prelude.{slice_get}
use Rattle.gv_trail.specs.Entries.{State}
use Rattle.gv_trail.proofs.Following.{passes_none, passes_one, lasting_clause}
use Rattle.gv_trail.proofs.trail.Trail.pass_lasting.Goals as goal

pub loop-self-init : goal.loop-self-init
loop-self-init c = passes_none c.args.clauses.now c.args.self.now c.requires

pub loop-self-preserved : goal.loop-self-preserved
loop-self-preserved c =
    let n : c.self.inside.lasting ≡ c.loop-self.self.watched.lasting = ap (λ (s : State). s.watched.lasting) c.self.view_is in
    let lt : c.loop-self.self.watched.lasting < length c.loop-self.self.watched.apart = rw (c.apart.ensures, n) at c.loop-self-test.true in
    let named : slice_get c.args.clauses.now.clauses (get_or c.loop-self.self.watched.apart c.loop-self.self.watched.lasting 0) ≡ Some c.in-Some.lits.now = rw (c.apart-in-loop-self.ensures, n) at c.in-Some.ensures in
    rw c.pass_one.ensures (passes_one c.args.clauses.now c.args.self.now c.loop-self.self c.loop-self.invariant lt (lasting_clause c.args.clauses.now.clauses c.loop-self.self.entries (get_or c.loop-self.self.watched.apart c.loop-self.self.watched.lasting 0) c.in-Some.lits.now named (c.is_lasting.ensures c.if-is_lasting.true)))
