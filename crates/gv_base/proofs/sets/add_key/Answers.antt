use Rattle.std.proofs.Common.{ap, ◌∙◌}
use Rattle.gv_base.specs.Order.{has_text}
use Rattle.gv_base.proofs.sets.add_key.Goals as goal

pub returns : goal.returns
returns c = λ text. ap (λ keys. has_text keys text) c.in_ok-insert.ensures.keys ∙ c.in_order_law.ensures.put_members c.args.set.now.keys c.args.word text
