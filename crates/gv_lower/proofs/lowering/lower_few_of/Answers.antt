use Rattle.gv_facts.specs.Preferred.{preferred}
use Rattle.gv_entry.specs.Weight.{weight}
use Rattle.gv_lower.specs.Around.{parent_of}
use Rattle.gv_lower.specs.Lowering.{IsQuery}
use Rattle.gv_lower.specs.QueryGates.{failing_gates, failing_items}
use Rattle.gv_lower.proofs.Finishing.{failing_circuit}
use Rattle.gv_lower.proofs.Refused.{light_refused}
use Rattle.gv_lower.proofs.lowering.lower_few_of.Goals as goal

pub failing_query-requires-clause-formed : goal.failing_query-requires-clause-formed
failing_query-requires-clause-formed g c =
    failing_circuit (parent_of c.args.candidates.now c.args.pkg.now) c.args.inputs c.args.required.now c.args.class.now c.requires.few c.in-Ok.ensures

pub returns-in-Err : goal.returns-in-Err
returns-in-Err g c =
    light_refused c.args.inputs (weight (parent_of c.args.candidates.now c.args.pkg.now) c.args.required.now c.args.class.now)
    (IsQuery (failing_gates (parent_of c.args.candidates.now c.args.pkg.now) c.args.required.now c.args.class.now c.args.inputs) c.args.inputs (failing_items (parent_of c.args.candidates.now c.args.pkg.now) c.args.required.now c.args.class.now c.args.inputs) (preferred c.args.pkg.now c.args.inputs)) c.in-Err.fault c.requires.few c.in-Err.ensures
