use Rattle.gv_trail.specs.Entries.{assignment}
use Rattle.gv_solver.specs.Proving.{AreOnByForce, Proves}
use Rattle.gv_solver.proofs.Ends.{forced_from}
use Rattle.gv_solver.proofs.Forced.{length-bits}
use Rattle.gv_solver.proofs.least.least_bits.Goals as goal

pub prove_least-requires-clause-bits : goal.prove_least-requires-clause-bits
prove_least-requires-clause-bits c = rw (c.items.ensures.items, c.in_ok-bits.ensures) (length-bits (assignment c.args.trail.now) c.args.inputs)

pub prove_least-requires-clause-forced : goal.prove_least-requires-clause-forced
prove_least-requires-clause-forced c =
    let f : AreOnByForce c.args.clauses.now.clauses c.in_ok-bits.bits c.args.inputs = forced_from c.args.clauses.now c.args.inputs c.args.trail.now c.in_ok-bits.bits c.requires.ready.over c.requires.model c.in_ok-bits.ensures in
    rw c.items.ensures.items f

pub returns : goal.returns
returns c =
    let p : Proves c.args.clauses.now c.in_ok-bits.bits c.args.inputs c.args.log.now c.prove_least.new.log = rw c.items.ensures.items at c.in_ok-prove_least.ensures in
    record { are = c.in_ok-bits.ensures; proves = p }
