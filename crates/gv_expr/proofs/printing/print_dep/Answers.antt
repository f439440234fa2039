use Rattle.std.proofs.lemmas.Result.{IfOk-weaker}
use Rattle.gv_expr.proofs.TokensAgain.{dep_again}
use Rattle.gv_expr.proofs.printing.print_dep.Goals as goal

pub returns-clause-again : goal.returns-clause-again
returns-clause-again c = IfOk-weaker c.text_of_dep.result _ _ (λ text printed. dep_again c.args.items.now text printed) c.text_of_dep.ensures
