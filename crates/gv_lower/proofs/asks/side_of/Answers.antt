use Rattle.std.proofs.Common.{◌≡◌, ◌+◌, ◌<◌, get_or, drop, sym, subst, ap, ◌∙◌, Some}
use Rattle.gv_lower.specs.Chains.{next_naming}
use Rattle.gv_lower.specs.Parent.{base_at}
use Rattle.gv_lower.proofs.Grouping.{WalksOn, left_at, next_left, walks_next}
use Rattle.gv_lower.proofs.asks.side_of.Goals as goal

pub loop-at-smaller : goal.loop-at-smaller
loop-at-smaller c =
    let on : WalksOn c.args.side (base_at c.args.parent.now) c.args.chains.now c.args.flag.now c.args.first c.loop-at.lits (Some c.in-Some.place) =
    subst (WalksOn c.args.side (base_at c.args.parent.now) c.args.chains.now c.args.flag.now c.args.first c.loop-at.lits) c.in-Some.is c.loop-at.invariant in
    let here : c.index-items-place.result ≡ get_or c.args.chains.now c.in-Some.place c.index-items-place.result =
    subst (λ xs. c.index-items-place.result ≡ get_or xs c.in-Some.place c.index-items-place.result) c.items-items.ensures c.index-items-place.is in
    let named : c.index-items-place.result.flag ≡ c.args.flag.now = ap (λ x. x.flag) here ∙ on.valid.1 c.index-items-place.result in
    let next : c.later-at.result ≡ next_naming (c.in-Some.place + 1) c.index-items-place.result.flag (drop (c.in-Some.place + 1) c.args.chains.now) =
    c.later-at.ensures c.index-items-place.result.flag (on.valid.0, λ d. on.valid.1 d ∙ sym named) in
    subst (λ a. left_at c.args.chains.now c.later-at.result < left_at c.args.chains.now a) (sym c.in-Some.is)
    (next_left c.args.chains.now c.args.flag.now c.in-Some.place c.index-items-place.result on.valid.0 here named c.later-at.result next)

pub loop-at-preserved : goal.loop-at-preserved
loop-at-preserved c =
    let on : WalksOn c.args.side (base_at c.args.parent.now) c.args.chains.now c.args.flag.now c.args.first c.loop-at.lits (Some c.in-Some.place) =
    subst (WalksOn c.args.side (base_at c.args.parent.now) c.args.chains.now c.args.flag.now c.args.first c.loop-at.lits) c.in-Some.is c.loop-at.invariant in
    let here : c.index-items-place.result ≡ get_or c.args.chains.now c.in-Some.place c.index-items-place.result =
    subst (λ xs. c.index-items-place.result ≡ get_or xs c.in-Some.place c.index-items-place.result) c.items-items.ensures c.index-items-place.is in
    let named : c.index-items-place.result.flag ≡ c.args.flag.now = ap (λ x. x.flag) here ∙ on.valid.1 c.index-items-place.result in
    let next : c.later-at.result ≡ next_naming (c.in-Some.place + 1) c.index-items-place.result.flag (drop (c.in-Some.place + 1) c.args.chains.now) =
    c.later-at.ensures c.index-items-place.result.flag (on.valid.0, λ d. on.valid.1 d ∙ sym named) in
    walks_next c.args.chains.now c.args.flag.now c.in-Some.place c.index-items-place.result on.valid.0 here named c.args.side (base_at c.args.parent.now) c.args.first c.loop-at.lits c.add_side.new.lits c.later-at.result next c.in_ok-add_side.ensures on
