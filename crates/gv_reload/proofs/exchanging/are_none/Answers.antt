use Rattle.std.proofs.Common.{arith}
use Rattle.gv_reload.proofs.Exchanges.{some_left}
use Rattle.gv_reload.proofs.exchanging.are_none.Goals as goal

pub returns-in_default : goal.returns-in_default
returns-in_default c = some_left c.args.places.now (omega (arith, c.in_default.len_at_least))
