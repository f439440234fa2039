use Rattle.std.proofs.lemmas.Result.{IfOk-weaker}
use Rattle.gv_expr.proofs.TokensAgain.{req_again}
use Rattle.gv_expr.proofs.printing.print_required.Goals as goal

pub returns-clause-again : goal.returns-clause-again
returns-clause-again c = IfOk-weaker c.text_of_required.result _ _ (λ text printed. req_again c.args.items.now text printed) c.text_of_required.ensures
