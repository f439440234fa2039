use Rattle.std.proofs.Common.{sym, subst}
use Rattle.std.proofs.lemmas.Result.{IfOk-weaker}
use Rattle.gv_base.specs.Order.{HaveSameTexts, IsAscending}
use Rattle.gv_base.proofs.TextOrder.{in_order-ascends, in_order-has}
use Rattle.gv_base.proofs.texts.Texts.in_order.Goals as goal

pub returns-clause-ascends : goal.returns-clause-ascends
returns-clause-ascends c = IfOk-weaker c.sorted.result _ IsAscending (λ texts is. subst IsAscending (sym is) (in_order-ascends c.args.self.now)) c.sorted.ensures

pub returns-clause-members : goal.returns-clause-members
returns-clause-members c = IfOk-weaker c.sorted.result _ (HaveSameTexts c.args.self.now) (λ texts is. subst (HaveSameTexts c.args.self.now) (sym is) (in_order-has c.args.self.now)) c.sorted.ensures
