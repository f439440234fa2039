use Rattle.std.proofs.Common.{◌-◌, ap, ◌∙◌, take, drop, length, rules}
use Rattle.gv_base.specs.Outside.{gains}
use Rattle.gv_ending.proofs.Gains.{gains_piece}
use Rattle.gv_ending.proofs.output.put_all.Goals as goal

pub loop-at-preserved : goal.loop-at-preserved
loop-at-preserved g c = record {
  within = search rules;
  held = c.in_ok-n.ensures.held ∙ ap (λ h. gains h (take c.in_ok-n.n (take (length c.args.text.now - c.loop-at.at) (drop c.loop-at.at c.args.text.now)))) c.loop-at.invariant.held ∙ gains_piece (g.S.Sink.held c.args.sink.now) c.args.text.now c.loop-at.at c.in_ok-n.n;
  calm = search rules;
}
