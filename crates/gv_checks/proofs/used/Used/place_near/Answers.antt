use Rattle.gv_checks.proofs.CertLemmas.{near_place}
use Rattle.gv_checks.proofs.used.Used.place_near.Goals as goal

pub returns-in-Some-clause-uses : goal.returns-in-Some-clause-uses
returns-in-Some-clause-uses g c =
    near_place c.circuit_law.ensures c.args.asking.now.budget c.args.asking.now.given.now c.args.gates.now c.inputs-inputs.ensures.formed c.args.self.now c.args.steps.now c.requires.used c.args.query.now c.requires.bytes c.in-Some.near
    (c.requires.near c.in-Some.near c.in-Some.is)
