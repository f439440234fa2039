use Rattle.std.proofs.Common.{arith}
use Rattle.gv_logic.proofs.Counts.{count_clauses}
use Rattle.gv_logic.proofs.encoding.clause_count.Goals as goal

pub returns : goal.returns
returns c = omega (arith, count_clauses c.args.gates.now, c.operand_count.ensures, c.count.ensures.count)
