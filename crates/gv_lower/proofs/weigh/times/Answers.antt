use Rattle.std.proofs.Common.{◌*◌, ap, ◌∙◌}
use Rattle.gv_lower.specs.Weigh.{capped}
use Rattle.gv_lower.proofs.Products.{product}
use Rattle.gv_lower.proofs.weigh.times.Goals as goal

pub returns : goal.returns
returns c = λ x y a b. c.saturating_mul.ensures ∙ (ap (λ n. capped (n * c.args.b)) a ∙ (ap (λ m. capped (capped x * m)) b ∙ product x y))
