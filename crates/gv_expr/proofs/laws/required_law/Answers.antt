use Rattle.std.proofs.Common.{refl}
use Rattle.gv_expr.specs.Required.{reqs}
use Rattle.gv_expr.specs.RequiredGrammar.{req_text}
use Rattle.gv_expr.proofs.ReqFound.{read_both, fault_both}
use Rattle.gv_expr.proofs.TokensAgain.{req_again}
use Rattle.gv_expr.proofs.laws.required_law.Goals as goal

pub returns-clause-read : goal.returns-clause-read
returns-clause-read c = read_both

pub returns-clause-faults : goal.returns-clause-faults
returns-clause-faults c = fault_both

pub returns-clause-again : goal.returns-clause-again
returns-clause-again c bytes ts is = req_again ts (req_text (reqs ts)) refl bytes is
