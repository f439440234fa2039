use Rattle.std.proofs.Common.{map, refl, subst, ap, ◌∙◌}
use Rattle.gv_facts.specs.States.{state}
use Rattle.gv_lower.specs.AtomGates.{flag_plan}
use Rattle.gv_lower.specs.Asks.{FlagAsks, ask_plan, asked_in}
use Rattle.gv_lower.specs.Drawn.{Drew}
use Rattle.gv_lower.proofs.Drawing.{draws_next}
use Rattle.gv_lower.proofs.asks.draw_each_ask.Goals as goal

pub loop-ask-preserved : goal.loop-ask-preserved
loop-ask-preserved c =
    draws_next (map (ask_plan (state c.args.pkg.now c.args.profile.now c.args.level))) (ask_plan (state c.args.pkg.now c.args.profile.now c.args.level)) refl (λ x xs. refl)
    (map (ask_plan (state c.args.pkg.now c.args.profile.now c.args.level)) c.args.asks.now)
    c.args.sketch.now c.loop-ask.sketch c.draw_ask.new.sketch c.loop-ask.lits c.add.new.self c.in_ok-lit.lit c.args.asks.now c.loop-ask.ask-index c.ask-item.result
    c.loop-ask-test.true c.ask-item.is c.loop-ask.invariant
    (subst (λ s. Drew (flag_plan s (asked_in c.ask-item.result)) c.loop-ask.sketch c.draw_ask.new.sketch c.in_ok-lit.lit)
    (c.state.ensures ∙ ap (λ (a : FlagAsks). state c.args.pkg.now c.args.profile.now c.args.level a.flag) c.ask.view_is) c.in_ok-lit.ensures)
    c.in_ok-add.ensures.ok
