use Rattle.std.proofs.Common.{◌∙◌, sym, subst}
use Rattle.gv_logic.specs.Partial.{Has}
use Rattle.gv_trail.proofs.Picks.{unlike, has_at}
use Rattle.gv_trail.proofs.look.find_latest.Goals as goal

pub loop-lit-preserved : goal.loop-lit-preserved
loop-lit-preserved c = record {
  has = subst (λ z. Has z c.args.lits.now) (sym c.lit-item.is) (has_at c.args.lits.now c.loop-lit.lit-index c.lit-item.result c.loop-lit-test.true);
  differ = unlike c.lit-item.result c.args.but (sym c.eq.ensures ∙ c.if-eq.false);
}
