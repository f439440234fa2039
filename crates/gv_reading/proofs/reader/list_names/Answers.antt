use Rattle.gv_reading.proofs.Readings.{told_names}
use Rattle.gv_reading.proofs.reader.list_names.Goals as goal

pub returns-in-Ok-in_order-clause-names : goal.returns-in-Ok-in_order-clause-names
returns-in-Ok-in_order-clause-names g c = told_names _ c.args.path.now c.in-Ok.parts c.in-Ok-in_order.names c.in-Ok.ensures.parts c.in-Ok-in_order.ensures.value
