use Rattle.gv_defaults.proofs.ItemLemmas.{assignment}
use Rattle.gv_defaults.proofs.items.assignment_or_fault.Goals as goal

pub returns-in-Some : goal.returns-in-Some
returns-in-Some c = λ byte behind there not_space plain. assignment c.args.bytes.now byte behind c.in-Some.assigned there not_space plain c.in-Some.ensures
