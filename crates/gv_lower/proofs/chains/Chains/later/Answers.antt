use Rattle.std.proofs.Common.{◌+◌, ◌-◌, ◌<◌, length, get_or, drop, arith, sym, subst, ap, ◌∙◌}
use Rattle.gv_lower.specs.Chains.{HasFlag, next_naming}
use Rattle.gv_lower.proofs.Chaining.{later_at, length_later}
use Rattle.gv_lower.proofs.chains.Chains.later.Goals as goal

pub index-requires : goal.index-requires
index-requires c =
    let inside : c.args.at < length c.self.inside.items.now = subst (λ xs. c.args.at < length xs) (sym c.self.view_is) c.requires in
    omega (arith, inside, c.self.inside.later.ok.0, ap length c.self.invariant.later, length_later 0 c.self.inside.items.now)

pub returns : goal.returns
returns c = λ flag has.
    let here : HasFlag c.self.inside.items.now c.args.at flag = subst (λ xs. HasFlag xs c.args.at flag) (sym c.self.view_is) has in
    c.index.ensures ∙ (ap (λ xs. get_or xs (length c.self.inside.items.now - 1 - c.args.at) c.index.result.now) c.self.invariant.later
    ∙ (later_at c.self.inside.items.now flag c.args.at c.index.result.now here ∙ ap (λ xs. next_naming (c.args.at + 1) flag (drop (c.args.at + 1) xs)) c.self.view_is))
