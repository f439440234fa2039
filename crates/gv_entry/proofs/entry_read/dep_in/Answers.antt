use Rattle.std.proofs.Common.{sym}
use Rattle.gv_entry.proofs.ClassFaults.{dep_whole}
use Rattle.gv_entry.proofs.entry_read.dep_in.Goals as goal

pub returns-in_ok-new-in-Ok-clause-errors : goal.returns-in_ok-new-in-Ok-clause-errors
returns-in_ok-new-in-Ok-clause-errors c = dep_whole c.args.eapi c.args.text.now c.of_class.result.now c.args.errors.now c.args.class c.in-Ok.dep c.requires (sym c.if-not-has_class.ensures) c.of_class.ensures c.in-Ok.ensures.read
