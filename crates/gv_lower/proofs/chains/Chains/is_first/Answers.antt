use Rattle.std.proofs.Common.{◌≡◌, not, take, sym, subst, ap, ◌∙◌, Some, None}
use Rattle.std.specs.Prelude.{nat_eq}
use Rattle.std.specs.List.{list_any}
use Rattle.std.specs.Str.{bytes_eq}
use Rattle.gv_lower.specs.Chains.{HasFlag, next_naming}
use Rattle.gv_lower.proofs.Chaining.{is_first_none, is_first_some}
use Rattle.gv_lower.proofs.chains.Chains.is_first.Goals as goal

pub returns-in-Some : goal.returns-in-Some
returns-in-Some c =
    let items = c.self.inside.items.now in
    let here : HasFlag c.self.inside.items.now c.args.at c.args.flag.now = subst (λ xs. HasFlag xs c.args.at c.args.flag.now) (sym c.self.view_is) c.requires in
    let found : next_naming 0 c.args.flag.now c.self.inside.items.now ≡ Some c.in-Some.first.now =
    ap (λ f. next_naming 0 f c.self.inside.items.now) (sym c.bytes-name.ensures) ∙ (sym (c.self.invariant.first c.bytes-name.result) ∙ sym c.in-Some.ensures.value) in
    subst (λ xs. nat_eq c.in-Some.first.now c.args.at ≡ not (list_any (λ i. bytes_eq c.args.flag.now i.flag) (take c.args.at xs))) c.self.view_is
    (is_first_some c.args.flag.now c.self.inside.items.now c.args.at c.in-Some.first.now here found)

pub returns-in-None : goal.returns-in-None
returns-in-None c =
    let here : HasFlag c.self.inside.items.now c.args.at c.args.flag.now = subst (λ xs. HasFlag xs c.args.at c.args.flag.now) (sym c.self.view_is) c.requires in
    let none : next_naming 0 c.args.flag.now c.self.inside.items.now ≡ None =
    ap (λ f. next_naming 0 f c.self.inside.items.now) (sym c.bytes-name.ensures) ∙ (sym (c.self.invariant.first c.bytes-name.result) ∙ sym c.in-None.ensures.value) in
    absurd (is_first_none c.args.flag.now c.self.inside.items.now c.args.at here none)
